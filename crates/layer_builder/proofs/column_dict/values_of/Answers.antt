use Rattle.std.proofs.Common.{◌+◌, ◌∷◌, ◌++◌, ◌∙◌, [], List, ap, arith, inl, inr, length, map, subst, sym, take, take_all}
use Rattle.std.proofs.lemmas.List.{length-append}
use Rattle.cube_val.specs.declared.val.Val.{Val}
use Rattle.dim_dictionary.specs.Dictionaries.{dictionary_of}
use Rattle.plain_answer.specs.Aggregates.{cell}
use Rattle.layer_builder.proofs.ValueFacts.{AreAlike, alike_dictionary, alike_found, alike_pushed, column_more}
use Rattle.layer_builder.proofs.column_dict.values_of.Goals as goal

pub loop-row-preserved : goal.loop-row-preserved
loop-row-preserved c =
    let value : List Val → Val = λ row. cell row c.args.column in
    let rows = c.args.rows.now in
    let i = c.loop-row.row-index in
    let row = c.row-item.result in
    let had = c.loop-row.values.items in
    let more = sym (column_more value rows i row c.loop-row-test.true c.row-item.is) in
    elim c.in_ok-add_cell.ensures [
      | inl pushed ↦ record {
        alike = subst (λ (l : List Val). AreAlike l (map value (take (i + 1) rows))) (sym pushed)
            (subst (λ (l : List Val). AreAlike (had ++ value row ∷ []) l) more (alike_pushed had (map value (take i rows)) (value row) c.loop-row.invariant.alike));
        few = let size = ap length pushed ∙ length-append had (value row ∷ []) in omega (arith, size, c.loop-row.invariant.few);
      }
      | inr kept ↦ record {
        alike = subst (λ (l : List Val). AreAlike l (map value (take (i + 1) rows))) (sym kept.0)
            (subst (λ (l : List Val). AreAlike had l) more (alike_found had (map value (take i rows)) (value row) c.loop-row.invariant.alike kept.1));
        few = let size = ap length kept.0 in omega (arith, size, c.loop-row.invariant.few);
      }
    ]

pub returns-clause-dictionary : goal.returns-clause-dictionary
returns-clause-dictionary c =
    let value : List Val → Val = λ row. cell row c.args.column in
    let rows = c.args.rows.now in
    alike_dictionary c.loop-row.values.items (map value (take c.loop-row.row-index rows)) c.loop-row.invariant.alike
    ∙ ap (λ l. dictionary_of (map value l)) (take_all c.loop-row.row-index rows (omega arith))
