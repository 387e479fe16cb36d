use Rattle.std.proofs.Common.{◌≡◌, List, Some, None, refl, sym, subst, ◌∙◌, rules}
use Rattle.std.proofs.lemmas.Fn.{always_returns_same}
use Rattle.std.proofs.lemmas.Option.{slice_get_read}
use Rattle.cube_val.specs.Order.{row_cmp}
use Rattle.cube_val.specs.declared.val.Val.{Val}
use Rattle.lookup_snap.specs.Snaps.{IsRising, value_in}
use Rattle.lookup_snap.proofs.SearchFacts.{comparisons_rise, none_from_gap, value_from_hit}
use Rattle.lookup_snap.proofs.snap.LookupSnap.find.Goals as goal

pub returns-in-Ok-clause-value : goal.returns-in-Ok-clause-value
returns-in-Ok-clause-value c =
    let entries = c.deref.result.now in
    let key = c.args.key.now in
    let is = c.deref.ensures.value ∙ c.self.view_is in
    let rising = subst IsRising (sym c.deref.ensures.value) c.self.invariant in
    let tied = c.in-Ok.ensures.position (λ (e : List Val × List Val). row_cmp e.0 key) (always_returns_same _ _ _ (λ a r g called. search rules)) in
    let there = slice_get_read entries _ c.in-Ok.place c.index.result.now refl c.in-Ok.ensures.bound (rw (sym c.deref.ensures.value) at c.index.ensures) in
    subst (λ (es : List (List Val × List Val)). Some c.index.result.now.1 ≡ value_in es key) is
    (value_from_hit entries rising key c.in-Ok.place c.index.result.now there tied)

pub returns-in-Err-clause-value : goal.returns-in-Err-clause-value
returns-in-Err-clause-value c =
    let entries = c.deref.result.now in
    let key = c.args.key.now in
    let is = c.deref.ensures.value ∙ c.self.view_is in
    let rising = subst IsRising (sym c.deref.ensures.value) c.self.invariant in
    let parted = c.in-Err.ensures.position (λ (e : List Val × List Val). row_cmp e.0 key) (always_returns_same _ _ _ (λ a r g called. search rules)) in
    subst (λ (es : List (List Val × List Val)). None ≡ value_in es key) is
    (none_from_gap entries rising key _ (parted (comparisons_rise entries rising key)))
