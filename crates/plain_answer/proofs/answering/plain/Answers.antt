use Rattle.std.proofs.Common.{length, ap, arith}
use Rattle.std.proofs.lemmas.List.{length-map}
use Rattle.plain_answer.specs.Answers.{passes}
use Rattle.plain_answer.proofs.LoopLemmas.{length-filter}
use Rattle.plain_answer.proofs.answering.plain.Goals as goal

pub groups-requires : goal.groups-requires
groups-requires c =
    omega (arith, ap length c.deref.ensures.value, length-map c.in_ok-passing.passing.items (λ row. row.now), ap length c.in_ok-passing.ensures, length-filter (passes c.args.ask.now.filter) c.args.rows.now)
