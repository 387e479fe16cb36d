use Rattle.std.proofs.Common.{◌≡◌, ◌&&◌, ℕ, ◌+◌, Some, None, List, length, get_or, sym, ap, ◌∙◌, subst, arith}
use Rattle.std.specs.Prelude.{count_by, find, is_none, option_map, position}
use Rattle.run_history.specs.Sets.{is_overlap}
use Rattle.run_history.specs.World.{is_build, is_live}
use Rattle.run_history.specs.declared.refused.Refused.TheVariants.{NotLoaded, OverlapsJob, OverlapsSegment}
use Rattle.run_state.specs.declared.parts.JobEntry.{JobEntry}
use Rattle.run_state.proofs.Refusals.{by_job, by_number, by_segment, by_table}
use Rattle.run_state.proofs.Builds.{full_told, job_told, segment_told, table_absent, tables_there}
use Rattle.run_state.proofs.verdicts.build_refusal.Goals as goal

pub returns-in-Some : goal.returns-in-Some
returns-in-Some g c = λ w i.
    let found : position is_none c.args.state.now.loaded.items ≡ Some c.in-Some.table = ap (position is_none) (sym c.deref.ensures.value) ∙ (sym c.first_absent.ensures ∙ c.in-Some.is) in
    let name = subst (λ (x : List ℕ). x ≡ get_or c.args.names.now c.in-Some.table x) (sym c.in_ok-name.ensures) c.index-names-table.is in
    by_table c.args.names.now w c.args.range.now (NotLoaded c.in_ok-name.name) (table_absent g.T.TableHandle.rows g.R.ReadyHandle.ready_set w c.args.state.now i c.args.names.now c.requires c.in-Some.table c.in_ok-name.name found name)

pub returns-then-is_full : goal.returns-then-is_full
returns-then-is_full g c = λ w i.
    let none : position is_none c.args.state.now.loaded.items ≡ None = ap (position is_none) (sym c.deref.ensures.value) ∙ (sym c.first_absent.ensures ∙ c.in_default.is) in
    let builds = c.builds.ensures ∙ ap (count_by (λ (e : JobEntry _ _). is_live e.job.state && is_build e.job.kind)) c.deref-2.ensures.value in
    let full = full_told g.T.TableHandle.rows g.R.ReadyHandle.ready_set w c.args.state.now i c.ranges-ranges.result.now c.len.result c.builds.result c.is_full.result c.ranges-ranges.ensures c.len.ensures.count builds c.is_full.ensures in
    let there = tables_there g.T.TableHandle.rows g.R.ReadyHandle.ready_set w c.args.state.now i c.args.names.now c.requires none in
    by_number c.args.names.now w c.args.range.now there (full ∙ c.if-is_full.true)

pub returns-in-Some-overlapping_range : goal.returns-in-Some-overlapping_range
returns-in-Some-overlapping_range g c = λ w i.
    let none : position is_none c.args.state.now.loaded.items ≡ None = ap (position is_none) (sym c.deref.ensures.value) ∙ (sym c.first_absent.ensures ∙ c.in_default.is) in
    let builds = c.builds.ensures ∙ ap (count_by (λ (e : JobEntry _ _). is_live e.job.state && is_build e.job.kind)) c.deref-2.ensures.value in
    let full = full_told g.T.TableHandle.rows g.R.ReadyHandle.ready_set w c.args.state.now i c.ranges-ranges.result.now c.len.result c.builds.result c.is_full.result c.ranges-ranges.ensures c.len.ensures.count builds c.is_full.ensures in
    let there = tables_there g.T.TableHandle.rows g.R.ReadyHandle.ready_set w c.args.state.now i c.args.names.now c.requires none in
    let room = full ∙ c.if-is_full.false in
    let segment = segment_told g.T.TableHandle.rows g.R.ReadyHandle.ready_set w c.args.state.now i c.ranges-ranges.result.now c.args.names.now c.args.range.now (Some c.in-Some-overlapping_range.other) c.ranges-ranges.ensures (sym c.in-Some-overlapping_range.is ∙ c.overlapping_range.ensures) in
    by_segment c.args.names.now w c.args.range.now (OverlapsSegment c.in-Some-overlapping_range.other) there room segment

pub returns-in-None : goal.returns-in-None
returns-in-None g c = λ w i.
    let none : position is_none c.args.state.now.loaded.items ≡ None = ap (position is_none) (sym c.deref.ensures.value) ∙ (sym c.first_absent.ensures ∙ c.in_default.is) in
    let builds = c.builds.ensures ∙ ap (count_by (λ (e : JobEntry _ _). is_live e.job.state && is_build e.job.kind)) c.deref-2.ensures.value in
    let full = full_told g.T.TableHandle.rows g.R.ReadyHandle.ready_set w c.args.state.now i c.ranges-ranges.result.now c.len.result c.builds.result c.is_full.result c.ranges-ranges.ensures c.len.ensures.count builds c.is_full.ensures in
    let there = tables_there g.T.TableHandle.rows g.R.ReadyHandle.ready_set w c.args.state.now i c.args.names.now c.requires none in
    let room = full ∙ c.if-is_full.false in
    let segment = segment_told g.T.TableHandle.rows g.R.ReadyHandle.ready_set w c.args.state.now i c.ranges-ranges.result.now c.args.names.now c.args.range.now None c.ranges-ranges.ensures (sym c.in_default-overlapping_range.is ∙ c.overlapping_range.ensures) in
    let job = job_told g.T.TableHandle.rows g.R.ReadyHandle.ready_set w c.args.state.now i c.args.names.now c.args.range.now None (sym c.in-None.is ∙ (c.overlapping_job.ensures ∙ ap (λ (jobs : List (JobEntry _ _)). option_map (λ (e : JobEntry _ _). e.job.id) (find (λ (e : JobEntry _ _). is_live e.job.state && is_overlap e.range c.args.range.now) jobs)) c.deref-3.ensures.value)) in
    by_job c.args.names.now w c.args.range.now None there room segment job

pub returns-in-Some-overlapping_job : goal.returns-in-Some-overlapping_job
returns-in-Some-overlapping_job g c = λ w i.
    let none : position is_none c.args.state.now.loaded.items ≡ None = ap (position is_none) (sym c.deref.ensures.value) ∙ (sym c.first_absent.ensures ∙ c.in_default.is) in
    let builds = c.builds.ensures ∙ ap (count_by (λ (e : JobEntry _ _). is_live e.job.state && is_build e.job.kind)) c.deref-2.ensures.value in
    let full = full_told g.T.TableHandle.rows g.R.ReadyHandle.ready_set w c.args.state.now i c.ranges-ranges.result.now c.len.result c.builds.result c.is_full.result c.ranges-ranges.ensures c.len.ensures.count builds c.is_full.ensures in
    let there = tables_there g.T.TableHandle.rows g.R.ReadyHandle.ready_set w c.args.state.now i c.args.names.now c.requires none in
    let room = full ∙ c.if-is_full.false in
    let segment = segment_told g.T.TableHandle.rows g.R.ReadyHandle.ready_set w c.args.state.now i c.ranges-ranges.result.now c.args.names.now c.args.range.now None c.ranges-ranges.ensures (sym c.in_default-overlapping_range.is ∙ c.overlapping_range.ensures) in
    let job = job_told g.T.TableHandle.rows g.R.ReadyHandle.ready_set w c.args.state.now i c.args.names.now c.args.range.now (Some c.in-Some-overlapping_job.job) (sym c.in-Some-overlapping_job.is ∙ (c.overlapping_job.ensures ∙ ap (λ (jobs : List (JobEntry _ _)). option_map (λ (e : JobEntry _ _). e.job.id) (find (λ (e : JobEntry _ _). is_live e.job.state && is_overlap e.range c.args.range.now) jobs)) c.deref-3.ensures.value)) in
    by_job c.args.names.now w c.args.range.now (Some (OverlapsJob c.in-Some-overlapping_job.job)) there room segment job
