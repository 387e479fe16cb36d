-- What readers of the work of steps give, once their parts have given or failed.
use Rattle.std.proofs.Common.{◌≡◌, ◌∙◌, ℕ, List, Option, Some, ap}
use Rattle.byte_frame.specs.Outcomes.{Fails}
use Rattle.byte_frame.specs.Reading.{◌>>=◌, as_at, then_at}
use Rattle.byte_frame.specs.declared.fault.ReadError.{ReadError}
use Rattle.step_codec.proofs.LayerReads.{fails_on}

-- ---- one reader behind another

module _ {A B : Type 0} (first : List ℕ → Option (A × List ℕ)) (second : A → List ℕ → Option (B × List ℕ)) (bytes : List ℕ) where
  abbrev next : A × List ℕ → Option ((A × B) × List ℕ)
  next x = second x.0 x.1 >>= λ y. Some ((x.0, y.0), y.1)

  pub first_fails : (e : ReadError) → Fails e (first bytes) → Fails e (then_at first second bytes)
  first_fails e h = fails_on e (first bytes) next h

  then_is : (x : A) (left : List ℕ) → first bytes ≡ Some (x, left) → then_at first second bytes ≡ next (x, left)
  then_is x left h = ap (λ (o : Option (A × List ℕ)). o >>= next) h

  pub second_fails : (x : A) (left : List ℕ) (e : ReadError) → first bytes ≡ Some (x, left) → Fails e (second x left) → Fails e (then_at first second bytes)
  second_fails x left e h g = rw (then_is x left h) (fails_on e (second x left) (λ y. Some ((x, y.0), y.1)) g)

  pub then_gives : (x : A) (left : List ℕ) (y : B) (rest : List ℕ) → first bytes ≡ Some (x, left) → second x left ≡ Some (y, rest) → then_at first second bytes ≡ Some ((x, y), rest)
  then_gives x left y rest h g = then_is x left h ∙ ap (λ (o : Option (B × List ℕ)). o >>= λ z. Some ((x, z.0), z.1)) g

-- ---- what was read, as another value

module _ {A B : Type 0} (to : A → B) (read : List ℕ → Option (A × List ℕ)) (bytes : List ℕ) where
  pub as_fails : (e : ReadError) → Fails e (read bytes) → Fails e (as_at to read bytes)
  as_fails e h = fails_on e (read bytes) (λ x. Some (to x.0, x.1)) h

  pub as_gives : (x : A) (rest : List ℕ) → read bytes ≡ Some (x, rest) → as_at to read bytes ≡ Some (to x, rest)
  as_gives x rest h = ap (λ (o : Option (A × List ℕ)). o >>= λ z. Some (to z.0, z.1)) h
