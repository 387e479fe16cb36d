-- Pieces whose results are all there.
use Rattle.std.proofs.Common.{◌≡◌, List, [], ◌∷◌, Ok, map, subst, sym}
use Rattle.std.specs.Prelude.{IfOk, Result}
use Rattle.std.specs.List.{AllZip}

module _ {X Y : Type 0} (P : X → Y → Type 0) where
  unwrapped : (E : Type 0) (xs : List X) (ys : List Y) → AllZip (λ x (r : Result Y E). IfOk r (P x)) xs (map Ok ys) → AllZip P xs ys
  unwrapped E [] [] h = tt
  unwrapped E [] (y ∷ ys) h = absurd h
  unwrapped E (x ∷ xs) [] h = absurd h
  unwrapped E (x ∷ xs) (y ∷ ys) h = (h.0, unwrapped E xs ys h.1)

  -- what holds of each result that is there holds of what was made
  pub all_there : {E : Type 0} (xs : List X) (results : List (Result Y E)) (ys : List Y) → AllZip (λ x r. IfOk r (P x)) xs results → map Ok ys ≡ results → AllZip P xs ys
  all_there {E = E} xs results ys h made = unwrapped E xs ys (subst (AllZip (λ x (r : Result Y E). IfOk r (P x)) xs) (sym made) h)
