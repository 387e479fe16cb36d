-- Aggregation groups, with the places of rowkey columns for their names, and the cuboids that they give.
use Rattle.std.specs.Prelude.{ℕ, List, map, Option, Some, None, is_none, is_some, unwrap_or, Bool, ◌&&◌, nat_le, bytes_eq, length}
use Rattle.std.specs.List.{flat_map, list_all, position}
use Rattle.descriptor_json.specs.Places.{JsonPointer}
use Rattle.descriptor_json.specs.declared.raw.RawName.{RawName}
use Rattle.descriptor_json.specs.declared.raw.RawNumber.{RawNumber}
use Rattle.descriptor_json.specs.declared.raw.RawNumber.TheVariants.{Whole, Other}
use Rattle.descriptor_json.specs.declared.raw.RawGroup.{RawGroup}
use Rattle.descriptor_json.specs.declared.raw.RawDesc.{RawDesc}
use Rattle.agg_group.specs.Rules.{Rules}
use Rattle.agg_group.specs.Faults.{group_fault}
use Rattle.agg_group.specs.Built.{built_masks}
use Rattle.agg_group.specs.Limits.{most_cuboids}
use Rattle.agg_group.specs.declared.mask.Mask.{Mask}
use Rattle.desc_checks.specs.Firsts.{unless}

-- the dimension that a text names: its place in the rowkey
abbrev pub dimension_number : List RawName → RawName → Option ℕ
dimension_number rowkey t = position (λ k. bytes_eq k.text t.text) rowkey

abbrev pub dimensions_of : List RawName → List RawName → List ℕ
dimensions_of rowkey ts = map (λ t. unwrap_or (dimension_number rowkey t) 0) ts

-- the cap that a rule says; for a number that isn't whole 0 stands, which is no cap
abbrev pub cap_of : Option RawNumber → Option ℕ
cap_of None = None
cap_of (Some (Whole n)) = Some n
cap_of (Some Other) = Some 0

abbrev pub rules_of : List RawName → RawGroup → Rules
rules_of rowkey g = record {
  includes = dimensions_of rowkey g.includes;
  mandatory = dimensions_of rowkey g.rule.mandatory;
  hierarchies = map (dimensions_of rowkey) g.rule.hierarchies;
  joints = map (dimensions_of rowkey) g.rule.joints;
  cap = cap_of g.rule.cap;
}

-- each text is in the rowkey
abbrev pub are_dimensions : List RawName → List RawName → Bool
are_dimensions rowkey ts = list_all (λ t. is_some (dimension_number rowkey t)) ts

abbrev pub has_dimensions : List RawName → RawGroup → Bool
has_dimensions rowkey g =
    are_dimensions rowkey g.includes && are_dimensions rowkey g.rule.mandatory
    && list_all (are_dimensions rowkey) g.rule.hierarchies && list_all (are_dimensions rowkey) g.rule.joints

-- the group's texts are in the rowkey, and its lists have no fault
abbrev pub is_group : List RawName → RawGroup → Bool
is_group rowkey g = has_dimensions rowkey g && is_none (group_fault (rules_of rowkey g))

abbrev pub bad_group : List RawName → RawGroup → List JsonPointer
bad_group rowkey g = unless (is_group rowkey g) g.place

abbrev pub bad_groups : RawDesc → List JsonPointer
bad_groups r = flat_map (bad_group r.rowkey.items) r.groups.items

abbrev pub groups_of : RawDesc → List Rules
groups_of r = map (rules_of r.rowkey.items) r.groups.items

abbrev pub masks_of : RawDesc → List Mask
masks_of r = built_masks (length r.rowkey.items) (groups_of r)

-- more cuboids than a cube may have
abbrev pub too_many_cuboids : RawDesc → List JsonPointer
too_many_cuboids r = unless (nat_le (length (masks_of r)) most_cuboids) r.groups.place
