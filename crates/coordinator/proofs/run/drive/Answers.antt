use Rattle.std.proofs.Common.{◌≡◌, List, Vec, true, map, ap, ◌∙◌, subst, arith}
use Rattle.std.specs.declared.alloc.Global.{Global}
use Rattle.job_board.specs.BoardModel.{now}
use Rattle.script_text.specs.declared.verb.Line.{Line}
use Rattle.coordinator.specs.Coordinator.{inputs_in, is_done, load_of}
use Rattle.coordinator.specs.declared.loads.SharedLoad.{SharedLoad}
use Rattle.coordinator.proofs.Endings.{front-again, given-again, part-again, sound-again, sound-forth, written-again}
use Rattle.coordinator.proofs.Results.{on_err, on_ok}
use Rattle.coordinator.proofs.Whole.{part-of-transcript, part-transcript, whole-transcript}
use Rattle.coordinator.proofs.Asked.{done-some}
use Rattle.coordinator.proofs.run.drive.Goals as goal

pub returns-in-Err-clause-part : goal.returns-in-Err-clause-part
returns-in-Err-clause-part g c = λ before h.
    let d = c.args.coordinator.now in
    let at = c.loop.coordinator in
    let new = c.advance.new.coordinator in
    let inv = c.loop.invariant in
    let tables = ap (λ (loads : Vec SharedLoad Global). map load_of loads.items) inv.3 in
    let front = front-again d.script at.script (map load_of d.loads.items) (map load_of at.loads.items) inv.2 tables new.board c.advance.ensures.front in
    part-of-transcript (inputs_in d.script (map load_of d.loads.items)) new.board front g.H.Honest.honest before (g.S.Sink.written c.advance.new.sink)
    (part-again g.H.Honest.honest d.script at.script inv.2 at.board new.board before (g.S.Sink.written c.loop.sink) (g.S.Sink.written c.advance.new.sink) (inv.6 before h) (c.in-Err.ensures.part before))

pub loop-preserved : goal.loop-preserved
loop-preserved g c =
    let d = c.args.coordinator.now in
    let at = c.loop.coordinator in
    let new = c.advance.new.coordinator in
    let inv = c.loop.invariant in
    let script = c.advance.ensures.script in
    let tables = ap (λ (loads : Vec SharedLoad Global). map load_of loads.items) c.advance.ensures.loads in (
      tt,
      tt,
      script ∙ inv.2,
      c.advance.ensures.loads ∙ inv.3,
      given-again at.script new.script (map load_of at.loads.items) (map load_of new.loads.items) script tables inv.4,
      sound-forth at.script new.script (map load_of at.loads.items) (map load_of new.loads.items) script tables new.board new.taken c.in-Ok-true.ensures.sound,
      λ before h. written-again g.H.Honest.honest d.script at.script inv.2 at.board new.board before (g.S.Sink.written c.loop.sink) (g.S.Sink.written c.advance.new.sink) (inv.6 before h)
          (c.in-Ok-true.ensures.written before),
      λ base h. c.advance.ensures.counted base (inv.7 base h),
      omega (arith, c.advance.ensures.faults, inv.8),
      λ base h. c.advance.ensures.agrees base (inv.9 base h),
      c.advance.ensures.stopper ∙ inv.10,
      λ none. (let now = c.advance.ensures.quiet none in let before = inv.11 now.0 in (before.0, now.1 ∙ before.1)),
    )

pub returns-in-Ok-false-clause-written : goal.returns-in-Ok-false-clause-written
returns-in-Ok-false-clause-written g c =
    let d = c.args.coordinator.now in
    let at = c.loop.coordinator in
    let new = c.advance.new.coordinator in
    let inv = c.loop.invariant in
    let tables = ap (λ (loads : Vec SharedLoad Global). map load_of loads.items) inv.3 in
    let inputs = inputs_in d.script (map load_of d.loads.items) in
    let front = front-again d.script at.script (map load_of d.loads.items) (map load_of at.loads.items) inv.2 tables new.board c.advance.ensures.front in
    let sound = sound-again d.script at.script (map load_of d.loads.items) (map load_of at.loads.items) inv.2 tables new.board new.taken c.in-Ok-false.ensures.sound in
    let done = subst (λ (lines : List Line). is_done lines new.taken (now new.board) ≡ true) (c.advance.ensures.script ∙ inv.2) c.end.ensures.done in
    on_ok c.end.result _ _ (λ w before h. whole-transcript inputs new.board front new.taken sound done g.H.Honest.honest before (g.S.Sink.written c.advance.new.sink) (g.S.Sink.written c.end.new.sink)
    (written-again g.H.Honest.honest d.script at.script inv.2 at.board new.board before (g.S.Sink.written c.loop.sink) (g.S.Sink.written c.advance.new.sink) (inv.6 before h)
    (c.in-Ok-false.ensures.written before)) w) c.end.ensures.written

pub returns-in-Ok-false-clause-part : goal.returns-in-Ok-false-clause-part
returns-in-Ok-false-clause-part g c =
    let d = c.args.coordinator.now in
    let at = c.loop.coordinator in
    let new = c.advance.new.coordinator in
    let inv = c.loop.invariant in
    let tables = ap (λ (loads : Vec SharedLoad Global). map load_of loads.items) inv.3 in
    let inputs = inputs_in d.script (map load_of d.loads.items) in
    let front = front-again d.script at.script (map load_of d.loads.items) (map load_of at.loads.items) inv.2 tables new.board c.advance.ensures.front in
    let sound = sound-again d.script at.script (map load_of d.loads.items) (map load_of at.loads.items) inv.2 tables new.board new.taken c.in-Ok-false.ensures.sound in
    let done = subst (λ (lines : List Line). is_done lines new.taken (now new.board) ≡ true) (c.advance.ensures.script ∙ inv.2) c.end.ensures.done in
    on_err c.end.result _ _ (λ w before h. part-transcript inputs new.board front new.taken sound done g.H.Honest.honest before (g.S.Sink.written c.advance.new.sink) (g.S.Sink.written c.end.new.sink)
    (written-again g.H.Honest.honest d.script at.script inv.2 at.board new.board before (g.S.Sink.written c.loop.sink) (g.S.Sink.written c.advance.new.sink) (inv.6 before h)
    (c.in-Ok-false.ensures.written before)) w) c.end.ensures.part

pub returns-in-Err-clause-quiet : goal.returns-in-Err-clause-quiet
returns-in-Err-clause-quiet g c = λ some first none.
    let now = c.advance.ensures.quiet none in
    let before = c.loop.invariant.11 now.0 in
    now.1 ∙ before.1

pub returns-in-Ok-false-clause-quiet : goal.returns-in-Ok-false-clause-quiet
returns-in-Ok-false-clause-quiet g c = λ some first none.
    let d = c.args.coordinator.now in
    let at = c.loop.coordinator in
    let new = c.advance.new.coordinator in
    let inv = c.loop.invariant in
    let tables = ap (λ (loads : Vec SharedLoad Global). map load_of loads.items) inv.3 in
    let sound = sound-again d.script at.script (map load_of d.loads.items) (map load_of at.loads.items) inv.2 tables new.board new.taken c.in-Ok-false.ensures.sound in
    let done = subst (λ (lines : List Line). is_done lines new.taken (now new.board) ≡ true) (c.advance.ensures.script ∙ inv.2) c.end.ensures.done in
    absurd (done-some (inputs_in d.script (map load_of d.loads.items)) new.board new.taken sound done some none)

pub returns-in-Err-clause-agrees : goal.returns-in-Err-clause-agrees
returns-in-Err-clause-agrees g c = λ base h. c.advance.ensures.agrees base (c.loop.invariant.9 base h)

pub returns-in-Ok-false-clause-agrees : goal.returns-in-Ok-false-clause-agrees
returns-in-Ok-false-clause-agrees g c = λ base h. c.advance.ensures.agrees base (c.loop.invariant.9 base h)
