use Rattle.std.proofs.Common.{◌≡◌, ◌++◌, ◌∙◌, List, OnOk, ap, subst, sym}
use Rattle.cube_desc.specs.Cube.{Cube}
use Rattle.cube_val.specs.declared.form.WideCol.{WideCol}
use Rattle.flat_join.specs.Partners.{Entries}
use Rattle.flat_join.specs.Prepared.{IsPrepared, Joining, flat_rows_of}
use Rattle.flat_join.proofs.PreparedFacts.{added_ok}
use Rattle.flat_join.proofs.prepared.PreparedJoin.add_rows.Goals as goal

pub returns : goal.returns
returns c =
    let j : Joining = record { cube = c.self.inside.desc.now.cube; tables = c.self.inside.tables.now; range = c.self.inside.range.now } in
    let parts = c.parts.view_is ∙ c.parts-parts.ensures.value in
    let plan : c.deref.result.now ≡ j.cube.plan = c.deref.ensures ∙ ap (λ (x : Cube). x.plan) parts in
    let columns : IsPrepared j c.as_slice.result.now c.self.inside.snaps.items
    = subst (λ (cs : List WideCol). IsPrepared j cs c.self.inside.snaps.items) (sym c.as_slice.ensures.value) c.self.invariant in
    let ready : IsPrepared j c.as_slice.result.now c.as_slice-2.result.now
    = subst (λ (ss : List Entries). IsPrepared j c.as_slice.result.now ss) (sym c.as_slice-2.ensures.value) columns in
    let added = added_ok c.add_joined_rows.result j c.deref.result.now c.as_slice.result.now c.as_slice-2.result.now c.args.facts.now c.args.flat.now c.add_joined_rows.new.flat ready plan c.add_joined_rows.ensures in
    subst (λ (k : Joining). OnOk c.add_joined_rows.result (c.add_joined_rows.new.flat ≡ c.args.flat.now ++ flat_rows_of k c.args.facts.now)) c.self.view_is added
