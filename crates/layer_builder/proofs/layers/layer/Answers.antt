use Rattle.std.proofs.Common.{◌≡◌, ◌∙◌, ap, subst, sym}
use Rattle.std.specs.Prelude.{IfOk}
use Rattle.std.specs.List.{AllZip}
use Rattle.rayon.proofs.ListFacts.{IfOk-then}
use Rattle.rayon.proofs.ToStd.{slice-AllZip}
use Rattle.layer_builder.specs.Layers.{HasParent, IsWanted}
use Rattle.layer_builder.proofs.ResultFacts.{all_there}
use Rattle.layer_builder.proofs.layers.layer.Goals as goal

pub collect-requires-clause-ready : goal.collect-requires-clause-ready
collect-requires-clause-ready g c κs within =
    let parents = c.args.parents.now in
    let wants = c.args.wants.now in
    let slice : c.map.result.base.base.slice.now ≡ wants = ap (λ it. it.base.slice.now) c.map.ensures.base ∙ (ap (λ it. it.slice.now) c.with_min_len.ensures.base ∙ c.par_iter.ensures) in
    rw (c.map.ensures.f, slice) (λ k d lt x is. (subst (HasParent parents) (sym is) (c.requires.wants k d lt), λ y p. tt))

pub returns : goal.returns
returns g c =
    let parents = c.args.parents.now in
    let wants = c.args.wants.now in
    let slice = ap (λ it. it.base.slice.now) c.map.ensures.base ∙ (ap (λ it. it.slice.now) c.with_min_len.ensures.base ∙ c.par_iter.ensures) in
    let made = c.in_ok-made.ensures in
    let chain = rw c.map.ensures.f at made.1 in
    let each : AllZip (λ want r. IfOk r (IsWanted parents want)) wants c.in_ok-made.made.items = rw made.2 (slice-AllZip chain.0 wants (chain.1 ∙ slice) (λ want r. IfOk r (IsWanted parents want)) made.0 chain.2) in
    IfOk-then c.all_made.result _ _ c.all_made.ensures (λ tables h. all_there (IsWanted parents) wants _ tables.items each h)
