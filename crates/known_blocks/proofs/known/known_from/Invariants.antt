use Rattle.std.proofs.Common.{◌≡◌, ◌+◌, ◌++◌, drop}
use Rattle.known_blocks.specs.Known.{known_count, known_text}
use Rattle.known_blocks.proofs.known.known_from.Given as goal

abbrev pub invariant-loop-place : goal.invariant-loop-place
invariant-loop-place l = record {
  text : l.text.items ++ known_text (drop l.place l.shown) ≡ known_text (drop l.fn.from l.shown);
  place : l.place + known_count (drop l.place l.shown) ≡ l.fn.from + known_count (drop l.fn.from l.shown);
}
