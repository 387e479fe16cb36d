-- The blocks of commands on jobs.
use Rattle.std.proofs.Common.{◌≡◌, ℕ, ◌+◌, Option, Some, None, Result, Ok, Err, length, refl, sym, ap, ◌∙◌}
use Rattle.std.specs.Prelude.{option_map}
use Rattle.job_machine.specs.Job.{JobRecord, moved, moved_or_same, next, state_after}
use Rattle.job_machine.specs.declared.state.JobKind.TheVariants.{Build}
use Rattle.job_machine.specs.declared.state.JobState.{JobState}
use Rattle.plain_answer.specs.declared.ask.Ask.{Ask as Query}
use Rattle.range_list.specs.Ranges.{Interval}
use Rattle.run_history.specs.Commands.Command.{Steer, Submit, Note}
use Rattle.run_history.specs.Commands.Turn.{Takes}
use Rattle.run_history.specs.Steps.{by_verdict, step, steered}
use Rattle.run_history.specs.Verdicts.{act_of, await_refusal, steer_by, steer_refusal, verdict}
use Rattle.run_history.specs.World.{Submitted, World, job_of}
use Rattle.run_history.specs.declared.command.Control.{Control}
use Rattle.run_history.specs.declared.command.Control.TheVariants as control
use Rattle.run_history.specs.declared.command.Noted.TheVariants.{AwaitJob}
use Rattle.run_history.specs.declared.refused.Refused.{Refused}
use Rattle.run_history.specs.declared.refused.Refused.TheVariants.{NoSuchJob}
use Rattle.run_history.proofs.Laws.{job_at-with_job}
use Rattle.run_state.specs.Answers.{steer_answer, steered_to}
use Rattle.run_state.specs.declared.parts.Controlled.{Controlled}
use Rattle.run_transcript.specs.Entries.{entry_by, entry_of, state_block}
use Rattle.run_transcript.specs.Entries.Entry.{Told}
use Rattle.script_text.specs.declared.block.Block.{Block}
use Rattle.script_text.specs.declared.block.Block.TheVariants as block
use Rattle.script_text.specs.declared.verb.Verb.{Verb}
use Rattle.job_board.specs.Ledger.{cube}
use Rattle.coordinator.specs.Served.{served}

-- ---- jobs that are steered

-- the block of an answer
abbrev pub steered_block : ℕ → Result Controlled Refused → Block
steered_block job (Ok c) = block.State job c.state
steered_block job (Err refused) = block.Refused refused

state_moved : (by : Control) (after : JobState) (job : JobRecord) → (moved (act_of by) after job).state ≡ after
state_moved control.Pause after job = refl
state_moved control.Resume after job = refl
state_moved control.Discard after job = refl

module _ (w : World Query) (line job : ℕ) (by : Control) (said : Option Verb) where
  steered_job : (s : Submitted) (after : JobState) → job_of w job ≡ Some s → state_after (act_of by) s.job.state ≡ Some after
      → job_of (step cube w (Takes line (Steer by job))) job ≡ Some (record s { job = next (act_of by) s.job })
  steered_job s after e k =
      ap (λ (o : Option Submitted). job_of (by_verdict (steer_refusal by job o) 0 (record w { line = line }) (Steer by job)) job) e
      ∙ (ap (λ (a : Option JobState). job_of (by_verdict (steer_by s.job.state a) 0 (record w { line = line }) (Steer by job)) job) k
      ∙ (ap (λ (o : Option Submitted). job_of (steered (record w { line = line }) by job o) job) e
      ∙ job_at-with_job w.jobs job s (record s { job = next (act_of by) s.job }) e))

  steered_state : (s : Submitted) (after : JobState) → state_after (act_of by) s.job.state ≡ Some after → (next (act_of by) s.job).state ≡ after
  steered_state s after k = ap (λ (a : Option JobState). (moved_or_same (act_of by) a s.job).state) k ∙ state_moved by after s.job

  by_state : (s : Submitted) (after : Option JobState) → job_of w job ≡ Some s → state_after (act_of by) s.job.state ≡ after
      → entry_by served (steer_by s.job.state after) w line said (Steer by job) ≡ Told line (steered_block job (steered_to by s.job after))
  by_state s None e k = refl
  by_state s (Some after) e k =
      ap (λ (o : Option Submitted). Told line (state_block job o)) (steered_job s after e k)
      ∙ ap (λ (to : JobState). Told line (block.State job to)) (steered_state s after k)

  by_job : (found : Option Submitted) → job_of w job ≡ found
      → entry_by served (steer_refusal by job found) w line said (Steer by job) ≡ Told line (steered_block job (steer_answer by job found))
  by_job None e = refl
  by_job (Some s) e = by_state s (state_after (act_of by) s.job.state) e refl

  pub steered_entry : (answer : Result Controlled Refused) → answer ≡ steer_answer by job (job_of w job)
      → entry_of served w line said (Steer by job) ≡ Told line (steered_block job answer)
  steered_entry answer e = by_job (job_of w job) refl ∙ ap (λ (a : Result Controlled Refused). Told line (steered_block job a)) (sym e)

-- ---- jobs that are awaited

module _ (w : World Query) (line job : ℕ) (said : Option Verb) where
  pub awaited_none : job_of w job ≡ None → entry_of served w line said (Note (AwaitJob job)) ≡ Told line (block.Refused (NoSuchJob job))
  awaited_none e = ap (λ (o : Option Submitted). entry_by served (await_refusal job o) w line said (Note (AwaitJob job))) e

  awaited_found : (found : Option Submitted) (at : JobRecord) → job_of w job ≡ found → option_map (λ s. s.job) found ≡ Some at
      → entry_of served w line said (Note (AwaitJob job)) ≡ Told line (block.State job at.state)
  awaited_found None at e k = absurd cc
  awaited_found (Some s) at e k =
      let same : s.job ≡ at = cc in
      ap (λ (o : Option Submitted). entry_by served (await_refusal job o) w line said (Note (AwaitJob job))) e
      ∙ (ap (λ (o : Option Submitted). Told line (state_block job o)) e ∙ ap (λ (j : JobRecord). Told line (block.State job j.state)) same)

  pub awaited_some : (at : JobRecord) → option_map (λ s. s.job) (job_of w job) ≡ Some at
      → entry_of served w line said (Note (AwaitJob job)) ≡ Told line (block.State job at.state)
  awaited_some at k = awaited_found (job_of w job) at refl k

-- ---- jobs that are submitted

module _ (w : World Query) (line : ℕ) (range : Interval) (said : Option Verb) where
  pub built_entry : (number : ℕ) → number ≡ length w.jobs + 1 → verdict cube w (Submit Build range) ≡ None
      → entry_of served w line said (Submit Build range) ≡ Told line (block.Job number Build range)
  built_entry number n e =
      ap (λ (o : Option Refused). entry_by served o w line said (Submit Build range)) e ∙ ap (λ (k : ℕ). Told line (block.Job k Build range)) (sym n)

  pub refused_entry : (refused : Refused) → verdict cube w (Submit Build range) ≡ Some refused
      → entry_of served w line said (Submit Build range) ≡ Told line (block.Refused refused)
  refused_entry refused e = ap (λ (o : Option Refused). entry_by served o w line said (Submit Build range)) e
