use Rattle.std.proofs.Common.{◌≡◌, rules}
use Rattle.std.specs.Cmp.Lexicographic.{nat_list_cmp_total}
use Rattle.std.specs.Ordering.{is_lt}
use Rattle.std.proofs.lemmas.List.Sorted.{answers_always, ranks_by}
use Rattle.cell_store.specs.Cells.{key_cmp}
use Rattle.layer_builder.proofs.RunFacts.{Keyed, by_key-sorted}
use Rattle.layer_builder.proofs.runs.sorted_rows.Goals as goal

pub returns-clause-sorted : goal.returns-clause-sorted
returns-clause-sorted c =
    c.in_ok-sort_by.ensures.sorted (λ (a b : Keyed). is_lt (key_cmp a.0 b.0)) (ranks_by nat_list_cmp_total (λ (row : Keyed). row.0))
    (answers_always _ (λ a r. is_lt r ≡ is_lt (key_cmp a.0.now.0 a.1.0.now.0)) _ (λ f a r f' q. search rules))

pub returns-clause-groups : goal.returns-clause-groups
returns-clause-groups c ms =
    let stable = c.in_ok-sort_by.ensures.stable (λ (a b : Keyed). is_lt (key_cmp a.0 b.0)) (ranks_by nat_list_cmp_total (λ (row : Keyed). row.0))
    (answers_always _ (λ a r. is_lt r ≡ is_lt (key_cmp a.0.now.0 a.1.0.now.0)) _ (λ f a r f' q. search rules)) in
    by_key-sorted ms c.args.rows.items c.sort_by.new.self.items c.in_ok-sort_by.ensures.permutation stable
