use Rattle.std.proofs.Common.{map, length, arith, ap}
use Rattle.std.proofs.lemmas.List.{length-map}
use Rattle.plain_answer.specs.Aggregates.{number_in}
use Rattle.plain_answer.proofs.AggregateLemmas.{length-filter_map, length-known_values}
use Rattle.plain_answer.proofs.aggregates.aggregate_rows.Goals as goal

pub show_sum-requires : goal.show_sum-requires
show_sum-requires c =
    omega (
      arith,
      ap length c.deref-in-Sum.ensures.value,
      ap length c.in_ok-numbers.ensures,
      length-filter_map number_in (map (λ v. v.now) c.deref.result.now),
      ap (λ vs. length (map (λ v. v.now) vs)) c.deref.ensures.value,
      ap length c.in_ok-values.ensures,
      length-known_values c.args.agg.column (map (λ row. row.now) c.args.rows.now),
      length-map c.args.rows.now (λ row. row.now),
    )

pub show_average-requires : goal.show_average-requires
show_average-requires c =
    omega (
      arith,
      ap length c.deref-in-Avg.ensures.value,
      ap length c.in_ok-numbers.ensures,
      length-filter_map number_in (map (λ v. v.now) c.deref.result.now),
      ap (λ vs. length (map (λ v. v.now) vs)) c.deref.ensures.value,
      ap length c.in_ok-values.ensures,
      length-known_values c.args.agg.column (map (λ row. row.now) c.args.rows.now),
      length-map c.args.rows.now (λ row. row.now),
    )
