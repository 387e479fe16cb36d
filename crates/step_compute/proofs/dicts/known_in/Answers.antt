use Rattle.std.proofs.Common.{◌≡◌, ◌+◌, ◌++◌, ◌∷◌, ◌∙◌, [], List, Option, ap, rules, sym, take}
use Rattle.std.specs.List.{filter_map}
use Rattle.std.specs.Option.{option_to_list}
use Rattle.std.proofs.lemmas.List.{take_more}
use Rattle.cube_desc.proofs.FlatRowFacts.{kept_more}
use Rattle.cube_val.specs.declared.val.Val.{Val}
use Rattle.plain_answer.specs.Aggregates.{cell, known}
use Rattle.step_compute.proofs.dicts.known_in.Goals as goal

pub loop-i-preserved : goal.loop-i-preserved
loop-i-preserved g c =
    let rows = c.args.rows.now in
    let row = c.index-rows-i.result in
    let i = c.loop-i.i in
    let known_of : List Val → Option Val = λ row. known (cell row c.args.place) in
    let more : take (i + 1) rows ≡ take i rows ++ row ∷ [] = take_more rows i row c.loop-i-test.true ∙ ap (λ (r : List Val). take i rows ++ r ∷ []) (sym c.index-rows-i.is) in
    record {
      values = c.in_ok-push_known.ensures ∙ ap (λ (l : List Val). l ++ option_to_list (known_of row)) c.loop-i.invariant.values ∙ sym (kept_more known_of (take i rows) row) ∙ ap (filter_map known_of) (sym more);
      looked = search rules;
    }
