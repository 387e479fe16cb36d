use Rattle.std.proofs.Common.{◌≡◌, ◌++◌, length, take}
use Rattle.std.specs.Int.{w32, to_be_bytes}
use Rattle.std.specs.List.{flat_map}
use Rattle.step_codec.specs.Seals.{cuboid_text}
use Rattle.step_codec.proofs.seal.put_all_cuboids.Given as goal

abbrev pub invariant-loop-cuboid : goal.invariant-loop-cuboid
invariant-loop-cuboid l = l.out.items ≡ (l.fn.out.items ++ to_be_bytes w32 (length l.cuboids)) ++ flat_map cuboid_text (take l.cuboid-index l.cuboids)
