-- Facts about the rows of a lookup by their keys.
use Rattle.std.proofs.Common.{◌≡◌, ◌++◌, ◌∷◌, ℕ, List, [], Bool, true, false, refl, ap, ◌∙◌, Option, Some, None}
use Rattle.std.specs.Prelude.{if◌then◌else◌}
use Rattle.std.specs.Option.{option_or}
use Rattle.cube_val.specs.declared.val.Val.{Val}
use Rattle.table_reader.specs.Keys.{key_of}
use Rattle.lookup_snap.specs.Snaps.{has_key, values_for}

after_choice : {A : Type 0} (b : Bool) (x : A) (o p : Option A) → option_or (if b then Some x else o) p ≡ (if b then Some x else option_or o p)
after_choice true x o p = refl
after_choice false x o p = refl

-- one more row at the end is the last
pub values_for-push : (places cols : List ℕ) (rows : List (List Val)) (row key : List Val)
    → values_for places cols (rows ++ row ∷ []) key ≡ (if has_key places row key then Some (key_of cols row) else values_for places cols rows key)
values_for-push places cols [] row key = refl
values_for-push places cols (x ∷ rows) row key =
    ap (λ (o : Option (List Val)). option_or o (if has_key places x key then Some (key_of cols x) else None)) (values_for-push places cols rows row key)
    ∙ after_choice (has_key places row key) (key_of cols row) (values_for places cols rows key) (if has_key places x key then Some (key_of cols x) else None)
