use Rattle.std.proofs.Common.{map}
use Rattle.coordinator.specs.Coordinator.{inputs_in, load_of}
use Rattle.coordinator.proofs.Boards.{front-sound, front-worked}
use Rattle.coordinator.proofs.Parts.{part-grown, written-worked}
use Rattle.coordinator.proofs.Results.{err_of}
use Rattle.coordinator.proofs.Worked.{sound-worked}
use Rattle.std.proofs.Common.{refl}
use Rattle.coordinator.proofs.Asked.{none-before}
use Rattle.coordinator.proofs.turns.advance.Goals as goal

pub returns-in_err-is_stepped-clause-front : goal.returns-in_err-is_stepped-clause-front
returns-in_err-is_stepped-clause-front g c =
    let d = c.args.coordinator.now in
    let inputs = inputs_in d.script (map load_of d.loads.items) in
    front-worked inputs d.board c.run_step.new.board c.run_step.ensures.worked (front-sound inputs d.board d.taken c.requires.sound)

pub returns-in_err-is_stepped-clause-part : goal.returns-in_err-is_stepped-clause-part
returns-in_err-is_stepped-clause-part g c =
    let d = c.args.coordinator.now in
    let w = c.run_step.ensures.worked in
    err_of c.from_residual-in_err-is_stepped.result _ (λ before h.
    part-grown g.H.Honest.honest d.script d.board c.run_step.new.board w.later before (g.S.Sink.written c.args.sink.now) w.grown h)

pub returns-clause-front : goal.returns-clause-front
returns-clause-front g c =
    let d = c.args.coordinator.now in
    let inputs = inputs_in d.script (map load_of d.loads.items) in
    front-worked inputs d.board c.run_step.new.board c.run_step.ensures.worked (front-sound inputs d.board d.taken c.requires.sound)

pub returns-clause-sound : goal.returns-clause-sound
returns-clause-sound g c =
    let d = c.args.coordinator.now in
    let inputs = inputs_in d.script (map load_of d.loads.items) in
    sound-worked inputs d.board c.run_step.new.board d.taken c.run_step.ensures.worked c.in_ok-is_stepped.ensures.idle c.requires.sound

pub returns-clause-written : goal.returns-clause-written
returns-clause-written g c = λ before h.
    let d = c.args.coordinator.now in
    written-worked g.H.Honest.honest d.script d.board c.run_step.new.board before (g.S.Sink.written c.args.sink.now) c.run_step.ensures.worked h

pub returns-in_err-is_stepped-clause-quiet : goal.returns-in_err-is_stepped-clause-quiet
returns-in_err-is_stepped-clause-quiet g c = λ none.
    let w = c.run_step.ensures.worked in
    (none-before c.args.coordinator.now.board c.run_step.new.board w.later w.grown none, refl)

pub returns-clause-quiet : goal.returns-clause-quiet
returns-clause-quiet g c = λ none.
    let w = c.run_step.ensures.worked in
    (none-before c.args.coordinator.now.board c.run_step.new.board w.later w.grown none, refl)
