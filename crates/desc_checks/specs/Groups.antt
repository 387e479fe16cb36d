-- The texts of an aggregation group, in the order of the walk.
use Rattle.std.specs.Prelude.{List, ◌++◌}
use Rattle.std.specs.List.{flat_map}
use Rattle.descriptor_json.specs.Places.{JsonPointer}
use Rattle.descriptor_json.specs.declared.raw.RawName.{RawName}
use Rattle.descriptor_json.specs.declared.raw.RawGroup.{RawGroup}

-- the failing places among the texts of a group: its includes, mandatory columns, hierarchies and joints
abbrev pub of_group : (RawName → List JsonPointer) → RawGroup → List JsonPointer
of_group f g = flat_map f g.includes ++ flat_map f g.rule.mandatory ++ flat_map (flat_map f) g.rule.hierarchies ++ flat_map (flat_map f) g.rule.joints
