use Rattle.std.proofs.Common.{ap, map, ◌∙◌}
use Rattle.agg_group.specs.Rules.{lists_of}
use Rattle.cube_desc.specs.Groups.{dimensions_of}
use Rattle.cube_desc.proofs.GroupLemmas.{has_dimensions}
use Rattle.cube_desc.proofs.groups.group_of.Goals as goal

pub new-requires : goal.new-requires
new-requires c =
    has_dimensions c.args.rowkey.now c.args.group.now _ _ _ _ _ c.requires.some c.requires.few
    (c.as_slice-5.ensures ∙ (c.in_ok-includes.ensures ∙ ap (dimensions_of c.args.rowkey.now) c.as_slice.ensures))
    (c.as_slice-6.ensures ∙ (c.in_ok-mandatory.ensures ∙ ap (dimensions_of c.args.rowkey.now) c.as_slice-2.ensures))
    (ap lists_of c.as_slice-7.ensures.value ∙ (c.in_ok-hierarchies.ensures ∙ ap (map (dimensions_of c.args.rowkey.now)) c.as_slice-3.ensures))
    (ap lists_of c.as_slice-8.ensures.value ∙ (c.in_ok-joints.ensures ∙ ap (map (dimensions_of c.args.rowkey.now)) c.as_slice-4.ensures))
