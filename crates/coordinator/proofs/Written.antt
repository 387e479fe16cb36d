-- What was written, piece after piece.
use Rattle.std.proofs.Common.{◌≡◌, ℕ, zero, suc, ◌+◌, Option, Some, None, List, [], ◌∷◌, ◌++◌, length, take, refl, sym, ap, ◌∙◌, arith, append_assoc, append-nil}
use Rattle.std.specs.Io.KnownBytes.{append_known}
use Rattle.outside.specs.Written.{AppendsPart}

pub append_then : (known : Option (List ℕ)) (first later : List ℕ) → append_known (append_known known first) later ≡ append_known known (first ++ later)
append_then None first later = refl
append_then (Some bytes) first later = ap Some (append_assoc bytes first later)

pub append_none : (known : Option (List ℕ)) → append_known known [] ≡ known
append_none None = refl
append_none (Some bytes) = ap Some (append-nil bytes)

take_whole : (xs ys : List ℕ) → take (length xs) (xs ++ ys) ≡ xs
take_whole [] ys = refl
take_whole (x ∷ xs) ys = ap (λ (l : List ℕ). x ∷ l) (take_whole xs ys)

take_past : (xs ys : List ℕ) (n : ℕ) → take (length xs + n) (xs ++ ys) ≡ xs ++ take n ys
take_past [] ys n = let none : 0 + n ≡ n = omega arith in ap (λ (k : ℕ). take k ys) none
take_past (x ∷ xs) ys n =
    let more : length (x ∷ xs) + n ≡ suc (length xs + n) = omega arith in
    ap (λ (k : ℕ). take k (x ∷ (xs ++ ys))) more ∙ ap (λ (l : List ℕ). x ∷ l) (take_past xs ys n)

-- all of a text and then all of another
pub all_then : (before mid now : Option (List ℕ)) (first later whole : List ℕ) → mid ≡ append_known before first → now ≡ append_known mid later → whole ≡ first ++ later
    → now ≡ append_known before whole
all_then before mid now first later whole m h e = h ∙ (ap (λ (k : Option (List ℕ)). append_known k later) m ∙ (append_then before first later ∙ ap (append_known before) (sym e)))

-- all of a text and then a part of another
pub part_then : (before mid now : Option (List ℕ)) (first later whole : List ℕ) → mid ≡ append_known before first → AppendsPart mid now later → whole ≡ first ++ later
    → AppendsPart before now whole
part_then before mid now first later whole m h e = (
  length first + h.0,
  h.1
      ∙ (ap (λ (k : Option (List ℕ)). append_known k (take h.0 later)) m
      ∙ (append_then before first (take h.0 later)
      ∙ ap (append_known before) (sym (take_past first later h.0) ∙ ap (take (length first + h.0)) (sym e)))),
)

-- a text that goes on
pub part_front : (before now : Option (List ℕ)) (first more whole : List ℕ) → now ≡ append_known before first → whole ≡ first ++ more → AppendsPart before now whole
part_front before now first more whole m e = (length first, m ∙ ap (append_known before) (sym (take_whole first more) ∙ ap (take (length first)) (sym e)))

pub part_nothing : (before now : Option (List ℕ)) (text : List ℕ) → now ≡ before → AppendsPart before now text
part_nothing before now text e = (0, e ∙ sym (append_none before))

take_front : (n : ℕ) (xs more : List ℕ) → (m : ℕ) × (take m (xs ++ more) ≡ take n xs)
take_front zero xs more = (0, refl)
take_front (suc n) [] more = (0, refl)
take_front (suc n) (x ∷ xs) more = let rest = take_front n xs more in (suc rest.0, ap (λ (l : List ℕ). x ∷ l) rest.1)

-- a part of a text is a part of one that goes on
pub part_more : (before now : Option (List ℕ)) (text more whole : List ℕ) → AppendsPart before now text → whole ≡ text ++ more → AppendsPart before now whole
part_more before now text more whole h e =
    let front = take_front h.0 text more in
    (front.0, h.1 ∙ ap (append_known before) (sym front.1 ∙ ap (take front.0) (sym e)))
