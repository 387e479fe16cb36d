use Rattle.cubes_top.proofs.HandFacts.{called-one, fails-one, one-hand, put-back, same-one, stand-one}
use Rattle.cubes_top.proofs.top.run_over.Goals as goal

pub returns-clause-fails : goal.returns-clause-fails
returns-clause-fails g c =
    let one = one-hand c.pop.new.self.items c.args.hands.items c.in-Some.hand c.in-Some.ensures.items c.requires.one in
    fails-one g.H.Hand.fails c.args.hands.items c.in-Some.hand one c.run_script-ended.result.history.items c.run_script-ended.ensures.fails

pub returns-clause-fails_stand : goal.returns-clause-fails_stand
returns-clause-fails_stand g c =
    let one = one-hand c.pop.new.self.items c.args.hands.items c.in-Some.hand c.in-Some.ensures.items c.requires.one in
    stand-one g.H.Hand.fails c.args.hands.items c.in-Some.hand one c.run_script-ended.result.history.items c.run_script-ended.ensures.fails_stand

pub returns-clause-fails_same : goal.returns-clause-fails_same
returns-clause-fails_same g c =
    let hand = c.in-Some.hand in
    let hand' = c.run_script-ended.result.hand in
    let one = one-hand c.pop.new.self.items c.args.hands.items hand c.in-Some.ensures.items c.requires.one in
    let back = put-back c.pop.new.self.items c.args.hands.items c.push.new.self.items hand hand' c.in-Some.ensures.items c.requires.one c.in-Ok.ensures.items in
    same-one g.H.Hand.fails hand hand' c.args.hands.items c.push.new.self.items one back c.run_script-ended.ensures.fails_same

pub returns-clause-calls : goal.returns-clause-calls
returns-clause-calls g c =
    let hand = c.in-Some.hand in
    let hand' = c.run_script-ended.result.hand in
    let one = one-hand c.pop.new.self.items c.args.hands.items hand c.in-Some.ensures.items c.requires.one in
    let back = put-back c.pop.new.self.items c.args.hands.items c.push.new.self.items hand hand' c.in-Some.ensures.items c.requires.one c.in-Ok.ensures.items in
    let called = c.run_script-ended.ensures.calls in
    called-one g.H.Hand.calls g.H.Honest.honest c.args.inputs c.run_script-ended.result.history.items hand hand' c.args.hands.items c.push.new.self.items one back called.0 called.1 called.2
