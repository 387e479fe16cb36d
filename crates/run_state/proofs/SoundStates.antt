-- A state of a sound world.
use Rattle.std.proofs.Common.{◌≡◌, ℕ, zero, suc, ◌+◌, Bool, true, false, cond, ◌||◌, ◌==◌, Option, Some, None, List, [], ◌∷◌, refl, sym, ap, ◌∙◌, subst, arith}
use Rattle.std.specs.Prelude.{count_by, option_map}
use Rattle.std.proofs.lemmas.List.Sums.{sum_by-cons}
use Rattle.job_list.specs.JobList.{has}
use Rattle.run_history.specs.Cubes.{CubeSemantics, Rows}
use Rattle.run_history.specs.Invariants.{IsSound, places_of}
use Rattle.run_history.specs.World.{Submitted, World, job_at}
use Rattle.run_state.specs.Numbered.{NumberedSet}
use Rattle.run_state.specs.Orders.{IsQueued, is_claimable_at}
use Rattle.run_state.specs.States.{IsStateOf, entry_at, submitted_of}
use Rattle.run_state.specs.declared.parts.JobEntry.{JobEntry}
use Rattle.run_state.specs.declared.parts.RunState.{RunState}
use Rattle.run_state.proofs.Turns.{job_by_entry}

-- ---- the queue

counted : (n : ℕ) (queue : List ℕ) (b : Bool) → count_by (λ other. other == n) queue ≡ cond b 1 0 → has queue n ≡ b
counted n [] true h = absurd (omega arith)
counted n [] false h = refl
counted n (item ∷ queue) b h = by_test (item == n) b (counted n queue b) (sym (sum_by-cons (λ other. cond (other == n) 1 0) item queue) ∙ h)
  where
    by_test : (t c : Bool) → (count_by (λ other. other == n) queue ≡ cond c 1 0 → has queue n ≡ c) → cond t 1 0 + count_by (λ other. other == n) queue ≡ cond c 1 0 → t || has queue n ≡ c
    by_test true true rest h = refl
    by_test true false rest h = absurd (omega arith)
    by_test false c rest h = rest (omega arith)

module _ {T P R Q Answer : Type 0} (cube : CubeSemantics Q Answer) (rows : T → Rows) (ready_set : R → NumberedSet) (w : World Q) (s : RunState T P R Q) (sound : IsSound cube w) (i : IsStateOf rows ready_set w s) where
  told : (n : ℕ) → job_at w.jobs n ≡ option_map (submitted_of rows) (entry_at s.jobs.items n)
  told n = ap (λ (jobs : List Submitted). job_at jobs n) i.jobs ∙ job_by_entry rows s.jobs.items n

  places : (o : Option (JobEntry T P)) → places_of (option_map (submitted_of rows) o) ≡ cond (is_claimable_at o) 1 0
  places None = refl
  places (Some entry) = refl

  pub queued : IsQueued s
  queued n =
      ap (λ (q : List ℕ). has q n) (sym i.queue)
      ∙ counted n w.queue (is_claimable_at (entry_at s.jobs.items n)) (sound.queued n ∙ (ap places_of (told n) ∙ places (entry_at s.jobs.items n)))
