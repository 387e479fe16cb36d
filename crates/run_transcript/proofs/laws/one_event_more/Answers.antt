use Rattle.run_transcript.proofs.Histories.{entries-next, fresh-next, legal-next, turns-push, world-next}
use Rattle.run_transcript.proofs.laws.one_event_more.Goals as goal

pub returns-clause-turns : goal.returns-clause-turns
returns-clause-turns g c = λ served inputs history event. turns-push served inputs history event

pub returns-clause-world : goal.returns-clause-world
returns-clause-world g c = λ served inputs history event. world-next served inputs history event

pub returns-clause-entries : goal.returns-clause-entries
returns-clause-entries g c = λ served inputs history event. entries-next served inputs history event

pub returns-clause-legal : goal.returns-clause-legal
returns-clause-legal g c = λ served inputs history event later legal order allowed. legal-next served inputs history event later legal order allowed

pub returns-clause-fresh : goal.returns-clause-fresh
returns-clause-fresh g c = λ served inputs history event fresh next. fresh-next served inputs history event fresh next
