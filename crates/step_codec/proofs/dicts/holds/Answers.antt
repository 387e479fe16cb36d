use Rattle.std.proofs.Common.{◌≤◌, ◌<◌, ◌∙◌, arith, length, sym}
use Rattle.std.specs.Prelude.{min}
use Rattle.step_codec.proofs.HoldFacts.{holds_end, holds_not, holds_so}
use Rattle.step_codec.proofs.dicts.holds.Goals as goal

pub returns-then-not-holds_value : goal.returns-then-not-holds_value
returns-then-not-holds_value c =
    let lt : c.loop-i.i < length c.args.columns.now = omega arith in
    sym (sym c.loop-i.invariant ∙ holds_not c.args.columns.now c.args.dicts.now c.args.row.now c.vals.result.now c.loop-i.i _ c.get.result.now c.holds_value.result lt c.get.ensures c.vals.ensures c.holds_value.ensures c.if-not-holds_value.true)

pub loop-i-preserved : goal.loop-i-preserved
loop-i-preserved c =
    let lt : c.loop-i.i < length c.args.columns.now = omega arith in
    sym (holds_so c.args.columns.now c.args.dicts.now c.args.row.now c.vals.result.now c.loop-i.i _ c.get.result.now c.holds_value.result lt c.get.ensures c.vals.ensures c.holds_value.ensures c.if-not-holds_value.false) ∙ c.loop-i.invariant

pub returns : goal.returns
returns c =
    let end : min (length c.args.columns.now) (length c.args.dicts.now) ≤ c.loop-i.i = omega arith in
    sym (sym c.loop-i.invariant ∙ holds_end c.args.columns.now c.args.dicts.now c.args.row.now c.loop-i.i end)
