use Rattle.std.proofs.Common.{inr, [], ◌∷◌, length, refl, ap, arith, length-append}
use Rattle.std.proofs.lemmas.List.Elements.{All-nil}
use Rattle.entry_log.specs.Examples.{two_entries}
use Rattle.entry_log.specs.Logs.{FitsBody, entries_text}
use Rattle.entry_log.proofs.Appended.{All-push, closed_log}
use Rattle.entry_log.proofs.examples.worked_logs.Goals as goal

pub returns-clause-single : goal.returns-clause-single
returns-clause-single c = λ byte. (0, record { byte = byte; rest = []; text = refl; place = refl; fits = All-nil FitsBody; closed = inr (refl, refl) })

pub returns-clause-closed : goal.returns-clause-closed
returns-clause-closed c = closed_log [] 7 (9 ∷ []) (omega arith) (All-nil FitsBody)

pub returns-clause-entries : goal.returns-clause-entries
returns-clause-entries c = λ rest. closed_log two_entries 0 rest (omega arith) (All-push ((7 ∷ 8 ∷ []) ∷ []) [] (All-push [] (7 ∷ 8 ∷ []) (All-nil FitsBody) (omega arith)) (omega arith))

pub returns-clause-none : goal.returns-clause-none
returns-clause-none c = λ bodies log. absurd (omega (arith, ap length log.1.text, length-append (entries_text bodies) (log.1.byte ∷ log.1.rest)))
