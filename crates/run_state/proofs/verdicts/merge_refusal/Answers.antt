use Rattle.std.proofs.Common.{◌&&◌, List, ap, ◌∙◌}
use Rattle.std.specs.Prelude.{find, option_map}
use Rattle.run_history.specs.Sets.{is_overlap}
use Rattle.run_history.specs.World.{is_live}
use Rattle.run_history.specs.declared.refused.Refused.TheVariants.{OverlapsJob}
use Rattle.run_state.specs.declared.parts.JobEntry.{JobEntry}
use Rattle.run_state.proofs.Ranges.{merge_told}
use Rattle.run_state.proofs.Refusals.{ranges_here}
use Rattle.run_state.proofs.verdicts.merge_refusal.Goals as goal

pub returns : goal.returns
returns g c = λ w i. merge_told g.T.TableHandle.rows g.R.ReadyHandle.ready_set w c.args.state.now i c.ranges-2.result.now c.ranges-2.ensures c.args.range.now c.cover_refusal-cover.result c.job_refusal-job.result c.or_refused.result c.or_refused.ensures
    (c.cover_refusal-cover.ensures w.ready (ranges_here g.T.TableHandle.rows g.R.ReadyHandle.ready_set w c.args.state.now i c.ranges-2.result.now c.ranges-2.ensures))
    (c.job_refusal-job.ensures ∙ ap (λ (jobs : List (JobEntry _ _)). option_map OverlapsJob (option_map (λ (e : JobEntry _ _). e.job.id) (find (λ (e : JobEntry _ _). is_live e.job.state && is_overlap e.range c.args.range.now) jobs))) c.deref.ensures.value)
