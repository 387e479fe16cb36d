use Rattle.std.proofs.Common.{◌≡◌, ◌&&◌, ℕ, Some, None, List, get_or, sym, ap, ◌∙◌, subst}
use Rattle.std.specs.Prelude.{find, is_none, option_map, position}
use Rattle.run_history.specs.Sets.{is_overlap}
use Rattle.run_history.specs.World.{is_live}
use Rattle.run_history.specs.declared.refused.Refused.TheVariants.{NotLoaded, OverlapsJob}
use Rattle.run_state.specs.declared.parts.JobEntry.{JobEntry}
use Rattle.run_state.proofs.Builds.{table_absent, tables_there}
use Rattle.run_state.proofs.Ranges.{refresh_by_table, refresh_told}
use Rattle.run_state.proofs.verdicts.refresh_refusal.Goals as goal

pub returns-in-Some : goal.returns-in-Some
returns-in-Some g c = λ w i.
    let found : position is_none c.args.state.now.loaded.items ≡ Some c.in-Some.table = ap (position is_none) (sym c.deref.ensures.value) ∙ (sym c.first_absent.ensures ∙ c.in-Some.is) in
    let name = subst (λ (x : List ℕ). x ≡ get_or c.args.names.now c.in-Some.table x) (sym c.in_ok-name.ensures) c.index-names-table.is in
    refresh_by_table w c.args.range.now c.args.names.now (NotLoaded c.in_ok-name.name) (table_absent g.T.TableHandle.rows g.R.ReadyHandle.ready_set w c.args.state.now i c.args.names.now c.requires c.in-Some.table c.in_ok-name.name found name)

pub returns : goal.returns
returns g c = λ w i.
    let none : position is_none c.args.state.now.loaded.items ≡ None = ap (position is_none) (sym c.deref.ensures.value) ∙ (sym c.first_absent.ensures ∙ c.in_default.is) in
    let there = tables_there g.T.TableHandle.rows g.R.ReadyHandle.ready_set w c.args.state.now i c.args.names.now c.requires none in
    refresh_told g.T.TableHandle.rows g.R.ReadyHandle.ready_set w c.args.state.now i c.ranges-2.result.now c.ranges-2.ensures c.args.range.now c.args.names.now c.missing-segment.result c.job_refusal-job.result c.or_refused.result there c.or_refused.ensures c.missing-segment.ensures
    (c.job_refusal-job.ensures ∙ ap (λ (jobs : List (JobEntry _ _)). option_map OverlapsJob (option_map (λ (e : JobEntry _ _). e.job.id) (find (λ (e : JobEntry _ _). is_live e.job.state && is_overlap e.range c.args.range.now) jobs))) c.deref-2.ensures.value)
