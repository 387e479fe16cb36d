use Rattle.std.proofs.Common.{sym, ap, Some, ◌∙◌, rules}
use Rattle.calendar.proofs.Dates.{number_of, of_jiff, to_jiff}
use Rattle.calendar.proofs.Texts.{day_with_again, day_with_none}
use Rattle.calendar.proofs.day.Day.with_parts.Goals as goal

pub returns-in-Some : goal.returns-in-Some
returns-in-Some c =
    let there = of_jiff c.args.year c.args.month c.args.day c.requires.year (c.in-Some.ensures.there.0 (search rules)) in
    let same = number_of c.args.year c.args.month c.args.day c.of_date.result c.in-Some.date there c.in-Some.ensures.value c.of_date.ensures in
    ap Some same ∙ sym (day_with_again c.args.year c.args.month c.args.day there)

pub returns-in-None : goal.returns-in-None
returns-in-None c =
    sym (day_with_none c.args.year c.args.month c.args.day (λ h. let there = c.in-None.ensures.there.1 (to_jiff c.args.year c.args.month c.args.day h) in absurd cc))
