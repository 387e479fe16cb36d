use Rattle.std.specs.List.{flat_map}
use Rattle.query_names.specs.Parts.{of_cond, of_group_terms, of_join, of_term}
use Rattle.query_names.proofs.LeastLemmas.{least_of_four}
use Rattle.query_names.proofs.check.least_of_columns.Goals as goal

pub returns : goal.returns
returns g c =
    let q = c.args.query.now in
    let f = g.C.Check.failing c.args.check.now in
    least_of_four (flat_map (of_join f) q.joins) (of_cond (of_term f) q.filter) (flat_map f q.group) (of_group_terms (of_term f) q) _ _ _ _ _ _ _
    (rw c.as_slice.ensures at c.least_in-joined.ensures) c.least_in_cond-filtered.ensures (rw c.as_slice-2.ensures at c.least_in-grouped.ensures) c.least_of_group_terms-shown.ensures c.lesser.ensures c.lesser-2.ensures c.lesser-3.ensures
