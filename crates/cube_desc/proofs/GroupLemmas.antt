-- The numbers of a group's dimensions, and its rules.
use Rattle.std.proofs.Common.{◌≡◌, ℕ, ◌<◌, ◌≤◌, List, [], ◌∷◌, map, length, Option, Some, None, Bool, true, false, cond, refl, sym, arith}
use Rattle.std.specs.Prelude.{nat_lt, unwrap_or, is_none, All, slice_index_or, bytes_eq}
use Rattle.std.specs.List.{AllByRecursion, position_or_len}
use Rattle.std.proofs.lemmas.Bool.{and_parts, ltb-true}
use Rattle.std.proofs.lemmas.List.Elements.{All-from_recursion, All-map}
use Rattle.smallvec.specs.SmallVec.{SmallVec}
use Rattle.agg_group.specs.Limits.{most_dimensions}
use Rattle.agg_group.specs.Rules.{Rules, HasDimensions, AreDimensions, lists_of}
use Rattle.agg_group.specs.Rules as agg
use Rattle.agg_group.specs.Built.{AreOf}
use Rattle.agg_group.specs.Faults.{IsSound, group_fault}
use Rattle.descriptor_json.specs.declared.raw.RawName.{RawName}
use Rattle.descriptor_json.specs.declared.raw.RawGroup.{RawGroup}
use Rattle.desc_checks.specs.Firsts.{first}
use Rattle.cube_desc.specs.Groups.{bad_group, dimension_number, dimensions_of, is_group, rules_of}
use Rattle.cube_desc.specs.Groups as spec
use Rattle.cube_desc.proofs.Passed.{none_unless}

below : (b : Bool) (m n : ℕ) → b ≡ nat_lt m n → 0 < n → unwrap_or (cond b (Some m) None) 0 < n
below true m n e h = ltb-true m n (sym e)
below false m n e h = h

number_below : (rowkey : List RawName) (t : RawName) → 0 < length rowkey → unwrap_or (dimension_number rowkey t) 0 < length rowkey
number_below rowkey t h = below (nat_lt (position_or_len (λ k. bytes_eq k.text t.text) rowkey) (length rowkey)) (position_or_len (λ k. bytes_eq k.text t.text) rowkey) (length rowkey) refl h

numbers_below : (rowkey ts : List RawName) → 0 < length rowkey → All (λ d. d < length rowkey) (dimensions_of rowkey ts)
numbers_below rowkey ts h = All-map (λ d. d < length rowkey) (λ t. unwrap_or (dimension_number rowkey t) 0) ts (λ k d _. number_below rowkey (slice_index_or ts k d) h)

are_dimensions : (rowkey ts : List RawName) → 0 < length rowkey → length rowkey ≤ most_dimensions → AreDimensions (dimensions_of rowkey ts)
are_dimensions rowkey ts h few = λ k d i. let b = numbers_below rowkey ts h k d i in omega arith

lists_are_dimensions : (rowkey : List RawName) (lists : List (List RawName)) → 0 < length rowkey → length rowkey ≤ most_dimensions → All AreDimensions (map (dimensions_of rowkey) lists)
lists_are_dimensions rowkey lists h few = All-map AreDimensions (dimensions_of rowkey) lists (λ k d _. are_dimensions rowkey (slice_index_or lists k d) h few)

-- what `Group::new` asks of the lists
pub has_dimensions : (rowkey : List RawName) (g : RawGroup) (i m : List ℕ) (hs js : List (SmallVec ℕ)) (cap : Option ℕ) → 0 < length rowkey → length rowkey ≤ most_dimensions
    → i ≡ dimensions_of rowkey g.includes → m ≡ dimensions_of rowkey g.rule.mandatory
    → lists_of hs ≡ map (dimensions_of rowkey) g.rule.hierarchies → lists_of js ≡ map (dimensions_of rowkey) g.rule.joints
    → HasDimensions (agg.rules_of i m hs js cap)
has_dimensions rowkey g i m hs js cap h few ei em eh ej = record {
  includes = rw ei (are_dimensions rowkey g.includes h few);
  mandatory = rw em (are_dimensions rowkey g.rule.mandatory h few);
  hierarchies = rw eh (lists_are_dimensions rowkey g.rule.hierarchies h few);
  joints = rw ej (lists_are_dimensions rowkey g.rule.joints h few);
}

-- what `valid_masks` asks of the groups
pub are_of : (rowkey : List RawName) (gs : List RawGroup) (groups : List Rules) → 0 < length rowkey → groups ≡ map (rules_of rowkey) gs → AreOf (length rowkey) groups
are_of rowkey gs groups h e = rw e (All-map (λ g. All (λ d. d < length rowkey) g.includes) (rules_of rowkey) gs (λ k d _. numbers_below rowkey (slice_index_or gs k d).includes h))

-- ---- groups that the checks pass

faultless : (g : Rules) → is_none (group_fault g) ≡ true → group_fault g ≡ None
faultless g e = by (group_fault g) e
  where
    by : {A : Type 0} (o : Option A) → is_none o ≡ true → o ≡ None
    by None e = refl
    by (Some x) e = cc

group_sound : (rowkey : List RawName) (g : RawGroup) → 0 < length rowkey → length rowkey ≤ most_dimensions → first (bad_group rowkey g) ≡ None → IsSound (rules_of rowkey g)
group_sound rowkey g h few e = record {
  faultless = faultless (rules_of rowkey g) (and_parts (spec.has_dimensions rowkey g) (is_none (group_fault (rules_of rowkey g))) (none_unless (is_group rowkey g) g.place e)).1;
  fits = record {
    includes = are_dimensions rowkey g.includes h few;
    mandatory = are_dimensions rowkey g.rule.mandatory h few;
    hierarchies = lists_are_dimensions rowkey g.rule.hierarchies h few;
    joints = lists_are_dimensions rowkey g.rule.joints h few;
  };
}

-- their lists have no fault
pub groups_sound : (rowkey : List RawName) (gs : List RawGroup) → 0 < length rowkey → length rowkey ≤ most_dimensions → AllByRecursion (λ g. first (bad_group rowkey g) ≡ None) gs → All IsSound (map (rules_of rowkey) gs)
groups_sound rowkey gs h few each = All-from_recursion IsSound (map (rules_of rowkey) gs) (by gs each)
  where
    by : (gs : List RawGroup) → AllByRecursion (λ g. first (bad_group rowkey g) ≡ None) gs → AllByRecursion IsSound (map (rules_of rowkey) gs)
    by [] each = tt
    by (g ∷ gs) each = (group_sound rowkey g h few each.0, by gs each.1)
