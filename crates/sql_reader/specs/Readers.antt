-- Reading from left to right.
use Rattle.std.specs.Prelude.{◌≡◌, ◌⊎◌, ℕ, zero, suc, List, [], ◌∷◌, length, Option, Some, None, Result, Ok, Err, if◌then◌else◌}
use Rattle.sql_tokens.specs.declared.kind.Kind.{Kind}
use Rattle.sql_tokens.specs.declared.token.Token.{Token}
use Rattle.sql_reader.specs.declared.stop.Stop.{Stop}
use Rattle.sql_reader.specs.declared.stop.Stop.TheVariants.{Unexpected}
use Rattle.sql_reader.specs.declared.stop.ReadError.{ReadError}
use Rattle.sql_reader.specs.declared.stop.ReadError.TheVariants as errors
use Rattle.sql_reader.specs.Kinds.{same, heads}

infixl 10 ◌>>=◌
abbrev pub ◌>>=◌ : {A B : Type 0} → Result A Stop → (A → Result B Stop) → Result B Stop
(Ok x) >>= f = f x
(Err e) >>= f = Err e

abbrev pub Fails : {Y : Type 0} → ReadError → Result Y Stop → Type 0
Fails errors.Memory read = Unit {0}
Fails (errors.Stop f) read = read ≡ Err f

-- What a function returned, seen by view, is what reading gives, unless memory ran out.
abbrev pub Gives : {X Y : Type 0} → (X → Y) → Result X ReadError → Result Y Stop → Type 0
Gives view (Ok x) read = read ≡ Ok (view x)
Gives view (Err e) read = Fails e read

-- A value, and what was read beside it, unless memory ran out.
abbrev pub Beside : {A B R : Type 0} → A → Result (B × R) ReadError → Result ((A × B) × R) ReadError → Type 0
Beside first read (Ok x) = (first ≡ x.0.0) × (read ≡ Ok (x.0.1, x.1))
Beside first read (Err e) = (e ≡ errors.Memory) ⊎ (read ≡ Err e)

abbrev pub Reader : Type 0 → Type 0
Reader A = List Token → Result (A × List Token) Stop

abbrev pub stuck : {A : Type 0} → List Token → Result A Stop
stuck ts = Err (Unexpected (length ts))

abbrev pub read_token : Kind → Reader Token
read_token k [] = stuck []
read_token k (t ∷ ts) = if same t.kind k then Ok (t, ts) else stuck (t ∷ ts)

abbrev pub read_pair : {A B : Type 0} → Reader A → Reader B → Reader (A × B)
read_pair p q ts = do
  x ← p ts
  y ← q x.1
  Ok ((x.0, y.0), y.1)

abbrev pub read_seen : {A B : Type 0} → (A → B) → Reader A → Reader B
read_seen f p ts = do
  x ← p ts
  Ok (f x.0, x.1)

abbrev pub read_choice : {A : Type 0} → List Kind → Reader A → Reader A → Reader A
read_choice first p q ts = if heads first ts then p ts else q ts

abbrev pub read_optional : {A : Type 0} → List Kind → Reader A → Reader (Option A)
read_optional first p ts = if heads first ts then (p ts >>= λ x. Ok (Some x.0, x.1)) else Ok (None, ts)

abbrev pub read_times : {A : Type 0} → ℕ → List Kind → Reader A → Reader (List A)
read_times zero first p ts = Ok ([], ts)
read_times (suc n) first p ts = if heads first ts then (p ts >>= λ x. read_times n first p x.1 >>= λ xs. Ok (x.0 ∷ xs.0, xs.1)) else Ok ([], ts)

abbrev pub read_many : {A : Type 0} → List Kind → Reader A → Reader (List A)
read_many first p ts = read_times (length ts) first p ts
