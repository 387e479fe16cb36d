use Rattle.std.proofs.Common.{◌≡◌, ◌∙◌, ap, map, subst, sym}
use Rattle.std.specs.Arc.{arc_value}
use Rattle.std.specs.Prelude.{remove}
use Rattle.segment_store.specs.ReadySets.{IsReady, Ready, segment_of}
use Rattle.segment_store.proofs.Drops.{drop_in_history}
use Rattle.segment_store.proofs.Swaps.{drop_keeps_ready}
use Rattle.segment_store.proofs.ready_set.ReadySet.without.Goals as goal

pub set_of-requires : goal.set_of-requires
set_of-requires g c =
    let old : map arc_value c.self.inside.segments.items ≡ c.args.self.now.segments = ap (λ r. r.segments) c.self.view_is in
    let list : map arc_value c.in_ok-list.list.items ≡ remove c.args.self.now.segments c.args.i = c.in_ok-list.ensures ∙ ap (λ l. remove (map arc_value l) c.args.i) c.as_slice.ensures.value ∙ ap (λ l. remove l c.args.i) old in
    subst IsReady (sym list) (drop_keeps_ready c.args.self.now.segments c.args.i c.requires.place (subst IsReady old c.self.invariant.0))

pub returns-clause-history : goal.returns-clause-history
returns-clause-history g c gone at =
    let old : map arc_value c.self.inside.segments.items ≡ c.args.self.now.segments = ap (λ r. r.segments) c.self.view_is in
    let list : map arc_value c.in_ok-list.list.items ≡ remove c.args.self.now.segments c.args.i = c.in_ok-list.ensures ∙ ap (λ l. remove (map arc_value l) c.args.i) c.as_slice.ensures.value ∙ ap (λ l. remove l c.args.i) old in
    let ready : IsReady c.args.self.now.segments = subst IsReady old c.self.invariant.0 in
    ap (λ (r : Ready). map segment_of r.segments) c.in_ok-set.ensures ∙ ap (map segment_of) list ∙ drop_in_history c.args.self.now.segments c.args.i gone ready.apart at
