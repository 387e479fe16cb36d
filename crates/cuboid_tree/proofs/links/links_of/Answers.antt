use Rattle.std.proofs.Common.{arith}
use Rattle.cuboid_tree.proofs.Linked.{none_headed, none_linked}
use Rattle.cuboid_tree.proofs.links.links_of.Goals as goal

pub loop-i-init : goal.loop-i-init
loop-i-init c = record {
  heads = none_headed c.args.masks.now _ c.in_ok-heads.ensures;
  nodes = none_linked c.args.masks.now _ c.in_ok-nodes.ensures;
  base = λ k from low. absurd (omega arith);
}
