use Rattle.std.proofs.Common.{◌≡◌, ◌↔◌, ◌+◌, ◌<◌, ◌≤◌, ℕ, length}
use Rattle.std.specs.Prelude.{IsNone}
use Rattle.cuboid_tree.specs.Links.{HasHeads, HasNodes}
use Rattle.cuboid_tree.specs.Tree.{parent_of}
use Rattle.cuboid_tree.proofs.links.links_of.Given as goal

abbrev pub invariant-loop-i : goal.invariant-loop-i
invariant-loop-i l = record {
  heads : HasHeads l.masks l.i l.links.heads.items;
  nodes : HasNodes l.masks l.i l.i l.links.nodes.items;
  base : (k : ℕ) → l.i ≤ k → k < length l.masks → IsNone (parent_of l.masks k) ↔ (k + 1 ≡ length l.masks);
}
