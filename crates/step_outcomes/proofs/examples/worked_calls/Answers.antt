use Rattle.std.proofs.Common.{[], ◌∷◌, take, drop, refl}
use Rattle.std.specs.Prelude.{⊤}
use Rattle.outside.specs.Hands.{call_of}
use Rattle.run_history.specs.declared.event.Outcome.TheVariants.{Done, Killed}
use Rattle.run_transcript.specs.Examples.{small}
use Rattle.step_outcomes.specs.Examples.{four_calls, killed_run}
use Rattle.step_outcomes.proofs.CallFacts.{calls-silent, calls-start, calls-step}
use Rattle.step_outcomes.proofs.examples.worked_calls.Goals as goal

pub returns-clause-all : goal.returns-clause-all
returns-clause-all c =
    let loaded = calls-silent small ⊤ 1 [] (take 3 killed_run) [] (tt, (tt, (tt, tt))) (calls-start small ⊤ 1) in
    let first = calls-step small ⊤ 1 (take 3 killed_run) [] loaded (call_of 1 1 (1 ∷ 0 ∷ [])) Done _ (λ _. (refl, refl)) in
    let killed = calls-step small ⊤ 1 (take 5 killed_run) (take 1 four_calls) first (call_of 1 2 (1 ∷ 1 ∷ [])) Killed _ (λ _. (refl, refl)) in
    let resumed = calls-silent small ⊤ 1 (take 7 killed_run) (take 2 (drop 7 killed_run)) (take 2 four_calls) (tt, (tt, tt)) killed in
    let third = calls-step small ⊤ 1 (take 9 killed_run) (take 2 four_calls) resumed (call_of 1 3 (1 ∷ 1 ∷ [])) Done _ (λ _. (refl, refl)) in
    let fourth = calls-step small ⊤ 1 (take 11 killed_run) (take 3 four_calls) third (call_of 1 4 (1 ∷ 2 ∷ [])) Done _ (λ _. (refl, refl)) in
    calls-silent small ⊤ 1 (take 13 killed_run) (drop 13 killed_run) four_calls (tt, (tt, (tt, (tt, tt)))) fourth
