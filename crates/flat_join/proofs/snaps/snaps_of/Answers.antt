use Rattle.std.proofs.Common.{◌≡◌, ◌+◌, ℕ, suc, Some, length, get_or, ap, subst, ◌∙◌, sym, arith}
use Rattle.std.specs.Prelude.{slice_get}
use Rattle.cube_val.specs.declared.form.JoinStep.{JoinStep}
use Rattle.cube_desc.specs.Cube.{Cube}
use Rattle.flat_join.specs.Joins.{lookups_of}
use Rattle.flat_join.proofs.FlatFacts.{lookup_ready, lookup_count, later_table}
use Rattle.flat_join.proofs.ServeFacts.{served_pushed}
use Rattle.flat_join.proofs.snaps.snaps_of.Goals as goal

pub loop-i-preserved : goal.loop-i-preserved
loop-i-preserved c =
    let count = lookup_count c.args.parts.now c.args.tables.now c.requires.sound c.requires.tables in
    let joins = ap length c.requires.joins in
    let i = c.loop-i.i in
    let n : c.loop-i.i + 1 ≡ suc c.loop-i.i = omega arith in
    let t = c.table.result.now in
    let at : t ≡ get_or (lookups_of c.args.tables.now) i t = c.table.ensures.value ∙ ap (λ (m : ℕ). get_or c.args.tables.now m t) n ∙ sym (later_table c.args.tables.now i t) in
    served_pushed c.args.joins.now (lookups_of c.args.tables.now) c.loop-i.snaps.items c.push.new.self.items i (i + 1) c.index-joins-i.result t c.in_ok-snap.snap c.as_slice-primary.result.now
    n c.loop-i-test.true (omega arith) c.index-joins-i.is at (c.as_slice-primary.ensures ∙ ap (λ (j : JoinStep). j.primary) (sym c.index-joins-i.is)) c.loop-i.invariant c.in_ok-snap.ensures c.in_ok-push.ensures.items

pub snap_of-requires : goal.snap_of-requires
snap_of-requires c =
    let desc = c.get-lookup.result.now in
    let r = lookup_ready c.args.parts.now c.args.joins.now c.args.tables.now c.loop-i.i (c.loop-i.i + 1) c.index-joins-i.result desc c.table.result.now c.as_slice-primary.result.now c.len.result
    (omega arith) c.requires.sound c.requires.tables c.requires.joins c.loop-i-test.true c.index-joins-i.is
    (subst (λ (x : Cube). slice_get x.tables (c.loop-i.i + 1) ≡ Some desc) c.parts.view_is c.get-lookup.ensures.at) c.table.ensures.at (c.as_slice-primary.ensures ∙ ap (λ (j : JoinStep). j.primary) (sym c.index-joins-i.is)) c.len.ensures in
    record { key = r.some; within = r.within; rows = r.rows_are; distinct = r.distinct }
