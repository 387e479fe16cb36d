-- The names of sessions.
use Rattle.std.proofs.Common.{◌≡◌, ◌+◌, ℕ, Bool, true, false, cond, not, ◌||◌, List, [], ◌∷◌, ◌++◌, map, refl, ap, ◌∙◌}
use Rattle.std.specs.List.{list_any, position_or_len}
use Rattle.std.specs.Str.{bytes_eq}
use Rattle.std.specs.declared.alloc.Global.{Global}
use Rattle.std.specs.declared.vec.Vec.{Vec}
use Rattle.std.proofs.lemmas.List.{map-append}

abbrev bytes_of : Vec ℕ Global → List ℕ
bytes_of name = name.items

pub any_bytes : (name : Vec ℕ Global) (keys : List (Vec ℕ Global)) → list_any (λ key. bytes_eq name.items key.items) keys ≡ list_any (bytes_eq name.items) (map (λ key. key.items) keys)
any_bytes name [] = refl
any_bytes name (key ∷ keys) = ap (λ (b : Bool). bytes_eq name.items key.items || b) (any_bytes name keys)

pub place_bytes : (name : Vec ℕ Global) (keys : List (Vec ℕ Global))
    → position_or_len (λ key. bytes_eq name.items key.items) keys ≡ position_or_len (bytes_eq name.items) (map (λ key. key.items) keys)
place_bytes name [] = refl
place_bytes name (key ∷ keys) = ap (λ (n : ℕ). cond (not (bytes_eq name.items key.items)) (1 + n) 0) (place_bytes name keys)

pub with_bytes : (name : Vec ℕ Global) (keys : List (Vec ℕ Global)) (b : Bool)
    → map (λ key. key.items) (cond b keys (keys ++ name ∷ [])) ≡ cond b (map (λ key. key.items) keys) (map (λ key. key.items) keys ++ name.items ∷ [])
with_bytes name keys true = refl
with_bytes name keys false = map-append bytes_of keys (name ∷ [])

-- the place of a name among the keys, and the keys with it
pub number_is : (name : Vec ℕ Global) (keys : List (Vec ℕ Global)) (names : List (List ℕ)) (bytes : List ℕ) (n m : ℕ)
    → name.items ≡ bytes → names ≡ map (λ key. key.items) keys → m ≡ position_or_len (λ key. bytes_eq name.items key.items) keys → n ≡ m
    → n ≡ position_or_len (bytes_eq bytes) names
number_is name keys names bytes n m b v p e = rw (e, p, v, ← b) (place_bytes name keys)

pub names_are : (name : Vec ℕ Global) (keys new : List (Vec ℕ Global)) (names : List (List ℕ)) (bytes : List ℕ)
    → name.items ≡ bytes → names ≡ map (λ key. key.items) keys → new ≡ cond (list_any (λ key. bytes_eq name.items key.items) keys) keys (keys ++ name ∷ [])
    → map (λ key. key.items) new ≡ cond (list_any (bytes_eq bytes) names) names (names ++ bytes ∷ [])
names_are name keys new names bytes b v e =
    ap (map bytes_of) e
    ∙ (with_bytes name keys (list_any (λ key. bytes_eq name.items key.items) keys)
    ∙ rw (any_bytes name keys, v, ← b) refl)
