use Rattle.std.proofs.Common.{◌∙◌, length, rules, tests}
use Rattle.std.specs.Prelude.{unwrap_or}
use Rattle.std.proofs.lemmas.Iterator.{YieldsList-from_slice}
use Rattle.std.proofs.lemmas.Iterator.Search.{position_from_yields_List}
use Rattle.step_compute.specs.Values.{has_mask}
use Rattle.cube_desc.proofs.FlatRowFacts.{place_or_len}
use Rattle.step_compute.proofs.layer_step.place_with.Goals as goal

pub returns : goal.returns
returns c =
    let test = has_mask c.args.mask in
    let xs = c.args.tables.now in
    let found = position_from_yields_List test _ _ _ c.position-place.ensures.ran (YieldsList-from_slice xs c.iter.ensures.rest) (λ x b q k. search (rules, tests)) in
    c.unwrap_or.ensures ∙ (λ i. unwrap_or (found i) (length xs)) ∙ place_or_len test xs
