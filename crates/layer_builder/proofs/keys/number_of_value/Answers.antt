use Rattle.std.proofs.Common.{◌∙◌, ap, refl, sym}
use Rattle.std.proofs.lemmas.List.{get_or_default}
use Rattle.layer_builder.specs.Base.{number_in}
use Rattle.layer_builder.proofs.ValueFacts.{number_at_place}
use Rattle.layer_builder.proofs.keys.number_of_value.Goals as goal

pub returns-in-Some : goal.returns-in-Some
returns-in-Some c =
    let v = c.args.v.now in
    let dict = c.values.result.now in
    let id = c.in-Some.id in
    let within = c.in-Some.ensures.within in
    let number = number_at_place dict id v v c.values.ensures.dictionary within (λ d. sym (get_or_default dict id d v within ∙ c.in-Some.ensures.there)) refl in
    sym number ∙ ap (λ values. number_in values v) c.values.ensures.values
