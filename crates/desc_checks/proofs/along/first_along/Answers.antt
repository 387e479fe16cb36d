use Rattle.std.proofs.Common.{sym, ap, ◌∙◌}
use Rattle.std.specs.Option.{option_copied}
use Rattle.desc_checks.proofs.AlongLemmas.{along_later, along_here}
use Rattle.desc_checks.proofs.along.first_along.Goals as goal

pub loop-item-preserved : goal.loop-item-preserved
loop-item-preserved g c = λ start h. along_later (g.C.Along.text c.args.check.now) (g.C.Along.failing c.args.check.now) c.loop-item.seen _ _ _ c.item-item.result _ _ c.loop-item-test.true c.item-item.is c.in_ok-text.ensures (c.loop-item.invariant start h) _ c.in_ok-is_new.ensures.told c.in_ok-is_new.ensures.seen (sym (ap option_copied c.in-None.is) ∙ c.in_ok-here.ensures)

pub returns-in-Some : goal.returns-in-Some
returns-in-Some g c = λ start h. along_here (g.C.Along.text c.args.check.now) (g.C.Along.failing c.args.check.now) c.loop-item.seen _ _ c.item-item.result _ _ _ c.loop-item-test.true c.item-item.is c.in_ok-text.ensures (c.loop-item.invariant start h) _ c.in_ok-is_new.ensures.told (sym (ap option_copied c.in-Some.is) ∙ c.in_ok-here.ensures)
