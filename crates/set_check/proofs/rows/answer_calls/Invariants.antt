use Rattle.set_check.specs.Readers.{IsReader}
use Rattle.set_check.proofs.rows.answer_calls.Given as goal

abbrev pub invariant-loop-call : goal.invariant-loop-call
invariant-loop-call g l = (goal.iterator-loop-call g).can_next l.call-iterator × (goal.iterator-loop-call g).is_finite l.call-iterator × IsReader l.row l.reader
