use Rattle.std.proofs.Common.{◌≡◌, ◌∙◌, [], List, ℕ, ap, arith, length, subst, sym}
use Rattle.std.specs.Prelude.{All}
use Rattle.std.proofs.lemmas.List.{length-replicate}
use Rattle.std.proofs.lemmas.List.Elements.{All-replicate}
use Rattle.cell_store.proofs.TableLemmas.{empty_table}
use Rattle.cell_store.proofs.table.CellTable.new.Goals as goal

pub invariant_of-result : goal.invariant_of-result
invariant_of-result c =
    let lists = c.in_ok-columns.ensures in
    record {
      dims = ap length lists ∙ length-replicate c.count.result [] ∙ c.count.ensures;
      each = subst (All (λ (l : List ℕ). length l ≡ 0)) (sym lists) (All-replicate (λ (l : List ℕ). length l ≡ 0) c.count.result [] (omega arith));
      whole = ap length c.new.ensures.items ∙ omega arith;
      table = empty_table c.args.mask c.in_ok-forms.forms.items;
    }
