use Rattle.std.proofs.Common.{◌≡◌, ◌++◌, length}
use Rattle.std.specs.Prelude.{All}
use Rattle.entry_log.specs.Logs.{FitsBody, bodies_of, entries_text}
use Rattle.entry_log.proofs.read.read_log.Given as goal

-- the entries so far were read, and the rest stands behind them
abbrev pub invariant-loop-body : goal.invariant-loop-body
invariant-loop-body l = record {
  text : l.bytes ≡ entries_text (bodies_of l.bodies.items) ++ l.rest;
  fits : All FitsBody (bodies_of l.bodies.items);
}

abbrev pub decreases-loop-body : goal.decreases-loop-body
decreases-loop-body l = length l.rest
