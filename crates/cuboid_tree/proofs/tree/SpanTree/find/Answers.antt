use Rattle.std.proofs.Common.{◌≡◌, ◌<◌, ◌≤◌, length, ◌∙◌, subst, nat_cmp, Equal, MatchResult, IfOk}
use Rattle.std.specs.List.{HoldsAt}
use Rattle.std.specs.List.Sorted.{IsBinarySearchResult}
use Rattle.cuboid_tree.specs.Links.{HasLinks}
use Rattle.cuboid_tree.proofs.Found.{found_says}
use Rattle.cuboid_tree.proofs.tree.SpanTree.find.Goals as goal

pub returns-clause-there : goal.returns-clause-there
returns-clause-there c =
    let masks = c.args.self.now in
    let all = c.deref.ensures.value ∙ c.self.view_is in
    let w = subst (λ ms. HasLinks ms c.self.inside.nodes.items c.self.inside.heads.items) c.self.view_is c.self.invariant in
    found_says masks c.args.m c.binary_search.result w.spans.rising
    (subst (λ ms. MatchResult c.binary_search.result (λ i. i < length ms) (λ i. i ≤ length ms)) all c.binary_search.ensures.bound)
    (subst (λ ms. IfOk c.binary_search.result (HoldsAt (λ y. nat_cmp y.0 c.args.m.0 ≡ Equal) ms)) all c.binary_search.ensures.ok)
    (subst (λ ms. IsBinarySearchResult (λ y. nat_cmp y.0 c.args.m.0) ms c.binary_search.result) all c.binary_search.ensures.position)
    c.ok.result c.ok.ensures.value
