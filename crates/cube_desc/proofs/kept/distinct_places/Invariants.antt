use Rattle.std.proofs.Common.{◌≡◌, take}
use Rattle.std.specs.List.{filter_map}
use Rattle.cube_desc.specs.Kept.{dict_place}
use Rattle.cube_desc.proofs.kept.distinct_places.Given as goal

abbrev pub invariant-loop-measure : goal.invariant-loop-measure
invariant-loop-measure l = l.places.items ≡ filter_map (dict_place l.cube) (take l.measure-index l.measure-items)
