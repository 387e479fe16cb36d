use Rattle.std.proofs.Common.{arith}
use Rattle.jiff.proofs.SpanFacts.{signed_arith}
use Rattle.jiff_core.proofs.DateLemmas.{civil}
use Rattle.jiff_core.proofs.CalendarLemmas.{days_from_civil-day_count, day_count_bounds}
use Rattle.calendar.proofs.Dates.{count_least}
use Rattle.calendar.proofs.day.Day.of_date.Goals as goal

pub overflow_sub-result : goal.overflow_sub-result
overflow_sub-result c =
    let d = c.args.date in
    let days = rw c.to_plain.ensures at c.days_since_min.ensures.value in
    omega (arith, signed_arith, days, days_from_civil-day_count d.year d.month d.day, count_least d.year d.month d.day (civil d) c.requires)

pub returns : goal.returns
returns c =
    let d = c.args.date in
    let days = rw c.to_plain.ensures at c.days_since_min.ensures.value in
    omega (arith, signed_arith, days, days_from_civil-day_count d.year d.month d.day, count_least d.year d.month d.day (civil d) c.requires)

pub invariant_of-result : goal.invariant_of-result
invariant_of-result c =
    let d = c.args.date in
    let days = rw c.to_plain.ensures at c.days_since_min.ensures.value in
    omega (arith, signed_arith, days, days_from_civil-day_count d.year d.month d.day, day_count_bounds d.year d.month d.day (civil d))
