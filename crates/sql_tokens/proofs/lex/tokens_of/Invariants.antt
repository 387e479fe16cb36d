use Rattle.std.proofs.Common.{◌-◌, ◌≤◌, drop, length}
use Rattle.sql_tokens.specs.Cuts.{Cuts}
use Rattle.sql_tokens.proofs.lex.tokens_of.Given as goal

abbrev pub invariant-cut : goal.invariant-cut
invariant-cut l = (l.at ≤ length l.text) × Cuts 0 l.text l.tokens l.at (drop l.at l.text)

abbrev pub decreases-cut : goal.decreases-cut
decreases-cut l = length l.text - l.at
