use Rattle.std.proofs.Common.{not, ap, ◌∙◌}
use Rattle.std.specs.List.{list_any}
use Rattle.run_history.specs.World.{is_under_way}
use Rattle.run_state.specs.declared.parts.JobEntry.{JobEntry}
use Rattle.run_state.proofs.Builds.{jobs_rest}
use Rattle.run_state.proofs.reads.may_note.Goals as goal

pub returns-in-AwaitJobs : goal.returns-in-AwaitJobs
returns-in-AwaitJobs g c = λ w i. rw c.in-AwaitJobs.is (jobs_rest g.T.TableHandle.rows g.R.ReadyHandle.ready_set w c.args.state.now i _ (ap not (c.any_under_way.ensures ∙ ap (list_any (λ (e : JobEntry _ _). is_under_way e.job.state)) c.deref-in-AwaitJobs.ensures.value)))
