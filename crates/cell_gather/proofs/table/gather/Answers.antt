use Rattle.std.proofs.Common.{◌≡◌, List, ℕ, length, map, rules, subst}
use Rattle.std.specs.Prelude.{IfOk}
use Rattle.std.specs.Cmp.Lexicographic.{nat_list_cmp_total}
use Rattle.std.specs.Ordering.{is_lt}
use Rattle.std.proofs.lemmas.List.Sorted.{All-permutation, answers_always, ranks_by, sum_by-IsPermutation}
use Rattle.agg_group.specs.Mask.{count_of}
use Rattle.cell_store.specs.Cells.{form_of, key_cmp}
use Rattle.cell_store.specs.declared.cell.Cell.{Cell}
use Rattle.cell_gather.proofs.LoopFacts.{gathered-sorted, items}
use Rattle.cell_gather.proofs.table.gather.Goals as goal

abbrev Row : Type 0
Row = List ℕ × List Cell

pub gather_sorted-requires-clause-sorted : goal.gather_sorted-requires-clause-sorted
gather_sorted-requires-clause-sorted c =
    rw c.deref.ensures.value (c.in_ok-sort_by.ensures.sorted (λ (a b : Row). is_lt (key_cmp a.0 b.0)) (ranks_by nat_list_cmp_total (λ (row : Row). row.0))
    (answers_always _ (λ a r. is_lt r ≡ is_lt (key_cmp a.0.now.0 a.1.0.now.0)) _ (λ f a r f' q. search rules)))

pub gather_sorted-requires-clause-widths : goal.gather_sorted-requires-clause-widths
gather_sorted-requires-clause-widths c =
    rw c.deref.ensures.value (All-permutation (λ (row : Row). length row.0 ≡ count_of c.args.mask) c.args.rows.items c.sort_by.new.self.items c.in_ok-sort_by.ensures.permutation c.requires.widths)

pub gather_sorted-requires-clause-forms : goal.gather_sorted-requires-clause-forms
gather_sorted-requires-clause-forms c =
    rw c.deref.ensures.value (All-permutation (λ (row : Row). map form_of row.1 ≡ c.args.forms.now) c.args.rows.items c.sort_by.new.self.items c.in_ok-sort_by.ensures.permutation c.requires.forms)

pub gather_sorted-requires-clause-few : goal.gather_sorted-requires-clause-few
gather_sorted-requires-clause-few c k lt =
    rw (c.deref.ensures.value, sum_by-IsPermutation (items k) c.args.rows.items c.sort_by.new.self.items c.in_ok-sort_by.ensures.permutation) (c.requires.few k lt)

pub returns-clause-rows : goal.returns-clause-rows
returns-clause-rows c =
    let stable = c.in_ok-sort_by.ensures.stable (λ (a b : Row). is_lt (key_cmp a.0 b.0)) (ranks_by nat_list_cmp_total (λ (row : Row). row.0))
    (answers_always _ (λ a r. is_lt r ≡ is_lt (key_cmp a.0.now.0 a.1.0.now.0)) _ (λ f a r f' q. search rules)) in
    let same = gathered-sorted c.args.forms.now c.args.rows.items c.sort_by.new.self.items c.in_ok-sort_by.ensures.permutation stable in
    subst (λ (l : List Row). IfOk c.gather_sorted.result (λ t. t.rows ≡ l)) same (rw c.deref.ensures.value at c.gather_sorted.ensures.rows)
