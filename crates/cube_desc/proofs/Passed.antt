-- What holds of a descriptor that the checks pass.
use Rattle.std.proofs.Common.{◌≡◌, ℕ, ◌<◌, ◌≤◌, List, [], ◌∷◌, ◌++◌, length, None, Bool, true, false, refl}
use Rattle.std.specs.Prelude.{◌&&◌, nat_le, nat_lt}
use Rattle.std.specs.List.{flat_map}
use Rattle.std.proofs.lemmas.Bool.{ltb-true, leb-true}
use Rattle.descriptor_json.specs.Places.{JsonPointer}
use Rattle.descriptor_json.specs.declared.raw.RawDesc.{RawDesc}
use Rattle.agg_group.specs.Limits.{most_dimensions}
use Rattle.desc_checks.specs.Firsts.{first, unless}
use Rattle.desc_checks.specs.Limits.{table_too_many, too_many, is_some_up_to}
use Rattle.desc_checks.specs.Names.{bad_names}
use Rattle.desc_checks.specs.Repeats.{twice}
use Rattle.desc_checks.specs.Faults.{each, faults, faults_of_texts, faults_of_names, faults_of_uses}
use Rattle.desc_checks.specs.declared.kind.DescFault.{DescFault}
use Rattle.desc_checks.specs.declared.kind.DescKind.{DescKind}
use Rattle.desc_checks.specs.declared.kind.DescKind.TheVariants as kind

-- ---- lists with no first

pub none_both : {A : Type 0} (xs ys : List A) → first (xs ++ ys) ≡ None → (first xs ≡ None) × (first ys ≡ None)
none_both [] ys e = (refl, e)
none_both (x ∷ xs) ys e = cc

pub none_each : (k : DescKind) (ps : List JsonPointer) → first (each k ps) ≡ None → first ps ≡ None
none_each k [] e = refl
none_each k (p ∷ ps) e = cc

pub none_unless : (b : Bool) (p : JsonPointer) → first (unless b p) ≡ None → b ≡ true
none_unless true p e = refl
none_unless false p e = cc

-- ---- the rowkey

of_three : (a b c : List DescFault) → first (a ++ b ++ c) ≡ None → first a ≡ None
of_three a b c h = (none_both a b (none_both (a ++ b) c h).0).0

of_five : (a b c d e : List JsonPointer) → first (a ++ b ++ c ++ d ++ e) ≡ None → first d ≡ None
of_five a b c d e h = (none_both (a ++ b ++ c) d (none_both (a ++ b ++ c ++ d) e h).0).1

pub both : (b c : Bool) → (b && c) ≡ true → (b ≡ true) × (c ≡ true)
both true c e = (refl, e)
both false c e = cc

pub up_to : (most n : ℕ) → is_some_up_to most n ≡ true → (0 < n) × (n ≤ most)
up_to most n e = let t = both (nat_lt 0 n) (nat_le n most) e in (ltb-true 0 n t.0, leb-true n most t.1)

pub rowkey_fits : (r : RawDesc) → first (faults r) ≡ None → (0 < length r.rowkey.items) × (length r.rowkey.items ≤ most_dimensions)
rowkey_fits r e =
    let texts = of_three (faults_of_texts r) (faults_of_names r) (faults_of_uses r) e in
    let limits = none_each kind.TooMany (too_many r) (of_three (each kind.TooMany (too_many r)) (each kind.BadName (bad_names r)) (each kind.Twice (twice r)) texts) in
    let rowkey =
    of_five (flat_map table_too_many r.tables) (unless (nat_le (length r.lookups.items) 8) r.lookups.place) (unless (nat_le (length r.measures.items) 16) r.measures.place) (unless (is_some_up_to most_dimensions (length r.rowkey.items)) r.rowkey.place) (unless (nat_le (length r.groups.items) 8) r.groups.place) limits in
    up_to most_dimensions (length r.rowkey.items) (none_unless _ r.rowkey.place rowkey)
