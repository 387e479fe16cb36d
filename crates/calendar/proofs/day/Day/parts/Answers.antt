use Rattle.std.proofs.Common.{sym, ap, pos}
use Rattle.calendar.proofs.Dates.{number_of, parts_in}
use Rattle.calendar.proofs.day.Day.parts.Goals as goal

pub returns-clause-calendar : goal.returns-clause-calendar
returns-clause-calendar c =
    parts_in c.date-date.result c.year_of.result c.month_of.result c.day_of_month.result (c.year_of.ensures, sym (ap pos c.month_of.ensures), sym (ap pos c.day_of_month.ensures))

pub returns-clause-number : goal.returns-clause-number
returns-clause-number c =
    number_of c.year_of.result c.month_of.result c.day_of_month.result c.args.self.now c.date-date.result (returns-clause-calendar c) (c.year_of.ensures, sym (ap pos c.month_of.ensures), sym (ap pos c.day_of_month.ensures)) c.date-date.ensures.number
