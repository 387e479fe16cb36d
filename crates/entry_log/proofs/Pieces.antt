-- A file, read in pieces.
use Rattle.std.proofs.Common.{◌≡◌, ◌+◌, ◌≤◌, ◌∙◌, ℕ, List, ◌++◌, length, drop, take, sym, ap, arith, length-drop, length-take, take-add, take_all}
use Rattle.std.proofs.lemmas.List.{take_min}

front_of : (m : ℕ) (file : List ℕ) → take (length (take m file)) file ≡ take m file
front_of m file = ap (λ (k : ℕ). take k file) (length-take m file) ∙ take_min m file

-- one piece more was read
pub next_piece : (file all part : List ℕ) (n : ℕ) → all ≡ take (length all) file → part ≡ take n (drop (length all) file) → all ++ part ≡ take (length (all ++ part)) file
next_piece file all part n front is =
    let whole : all ++ part ≡ take (length all + n) file = ap (λ (l : List ℕ). l ++ part) front ∙ ap (λ (l : List ℕ). take (length all) file ++ l) is ∙ sym (take-add (length all) n file) in
    whole ∙ sym (front_of (length all + n) file) ∙ ap (λ (l : List ℕ). take (length l) file) (sym whole)

-- as much as there is was read
pub all_read : (file all : List ℕ) → all ≡ take (length all) file → length file ≤ length all → all ≡ file
all_read file all front long = front ∙ take_all (length all) file long

-- there is no next piece
pub no_more : (file all part : List ℕ) (n : ℕ) → 1 ≤ n → all ≡ take (length all) file → part ≡ take n (drop (length all) file) → length part ≡ 0 → all ≡ file
no_more file all part n some front is none = all_read file all front (omega (arith, some, ap length is, none, length-take n (drop (length all) file), length-drop (length all) file))
