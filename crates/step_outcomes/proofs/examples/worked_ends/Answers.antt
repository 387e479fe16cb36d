use Rattle.std.proofs.Common.{refl, inl, inr, arith}
use Rattle.std.proofs.lemmas.List.Elements.{All-from_recursion}
use Rattle.step_outcomes.specs.Examples.{one_kill}
use Rattle.step_outcomes.specs.Ends.{IsUndamaged}
use Rattle.step_outcomes.specs.Faults.{IsEndBy}
use Rattle.step_outcomes.proofs.FaultFacts.{all-stand}
use Rattle.run_transcript.specs.Examples.{history}
use Rattle.step_outcomes.proofs.examples.worked_ends.Goals as goal

pub returns-clause-by_fault : goal.returns-clause-by_fault
returns-clause-by_fault c =
    All-from_recursion (IsEndBy one_kill) history
    (tt, (tt, (tt, (tt, (refl, (tt, (inl refl, (tt, (tt, (tt, (refl, (tt, (refl, (tt, (tt, (tt, (tt, tt)))))))))))))))))

pub returns-clause-stand : goal.returns-clause-stand
returns-clause-stand c =
    all-stand one_kill history
    (All-from_recursion (IsEndBy one_kill) history
    (tt, (tt, (tt, (tt, (refl, (tt, (inl refl, (tt, (tt, (tt, (refl, (tt, (refl, (tt, (tt, (tt, (tt, tt))))))))))))))))))

pub returns-clause-not_done : goal.returns-clause-not_done
returns-clause-not_done c = λ h. elim h [ inl e ↦ cc | inr e ↦ cc ]

pub returns-clause-not_told : goal.returns-clause-not_told
returns-clause-not_told c = λ e. cc

pub returns-clause-not_among : goal.returns-clause-not_among
returns-clause-not_among c = λ h. let found = h refl in omega (arith, found.1.1)

pub returns-clause-no_memory : goal.returns-clause-no_memory
returns-clause-no_memory c = inr refl

pub returns-clause-damaged : goal.returns-clause-damaged
returns-clause-damaged c = refl

pub returns-clause-undamaged : goal.returns-clause-undamaged
returns-clause-undamaged c =
    All-from_recursion IsUndamaged history
    (refl, (refl, (refl, (refl, (refl, (refl, (refl, (refl, (refl, (refl, (refl, (refl, (refl, (refl, (refl, (refl, (refl, tt)))))))))))))))))

pub returns-clause-damage : goal.returns-clause-damage
returns-clause-damage c = λ e. cc
