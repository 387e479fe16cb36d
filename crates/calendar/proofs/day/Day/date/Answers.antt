use Rattle.std.proofs.Common.{arith, sym, ◌≡◌, ◌+ℤ◌, pos}
use Rattle.jiff.proofs.SpanFacts.{signed_arith}
use Rattle.jiff_core.specs.Date.{epoch_day}
use Rattle.calendar.proofs.Dates.{year_from}
use Rattle.calendar.proofs.day.Day.date.Goals as goal

pub returns-clause-year : goal.returns-clause-year
returns-clause-year c =
    let counted = rw (sym c.from_plain.ensures) at c.from_days_since_min.ensures in
    let number : epoch_day c.from_plain.result +ℤ pos 719_528 ≡ pos c.self.inside.number = omega (arith, signed_arith, counted) in
    year_from c.from_plain.result c.self.inside.number number
