use Rattle.std.proofs.Common.{◌≡◌, ◌<◌, ◌+◌, ℕ, List, [], ◌∷◌, Some, length, map, slice_get, get_or, refl, ap, ◌∙◌, subst}
use Rattle.std.proofs.lemmas.Option.{slice_get_read}
use Rattle.script_text.specs.declared.verb.Line.{Line}
use Rattle.coordinator.specs.Coordinator.{inputs_in, load_of}
use Rattle.coordinator.specs.ExecutedLines.{HasExecuted}
use Rattle.coordinator.specs.declared.loads.SharedLoad.{SharedLoad}
use Rattle.coordinator.proofs.Boards.{front-sound}
use Rattle.coordinator.proofs.Parts.{counted-part, counted-taken, front-part, part-of-part, part-taken, sound-taken, written-taken}
use Rattle.coordinator.proofs.Results.{err_of, ok_of, on_err, on_ok}
use Rattle.coordinator.proofs.Asked.{part-before, taken-some}
use Rattle.coordinator.proofs.HandAgreementFacts.{agrees-part, agrees-taken}
use Rattle.coordinator.proofs.turns.take_next.Goals as goal

-- the line at the place
next : (script lines : List Line) (place : ℕ) (line : Line) → lines ≡ script → place < length script → line ≡ get_or lines place line → slice_get script place ≡ Some line
next script lines place line same h e = slice_get_read script (length script) place line refl h (e ∙ ap (λ (l : List Line). get_or l place line) same)

pub returns-in_err-block-clause-front : goal.returns-in_err-block-clause-front
returns-in_err-block-clause-front g c =
    let d = c.args.coordinator.now in
    let line = c.index-lines-coordinator.result in
    let there = next d.script c.lines.result.now d.taken line c.lines.ensures c.requires.next c.index-lines-coordinator.is in
    front-part d.script (map load_of d.loads.items) d.board d.taken c.take_line.new.board c.requires.sound line c.requires.given.rise there c.in_err-block.ensures.err

pub returns-in_err-block-clause-part : goal.returns-in_err-block-clause-part
returns-in_err-block-clause-part g c =
    let d = c.args.coordinator.now in
    let line = c.index-lines-coordinator.result in
    err_of c.from_residual.result _ (λ before h. part-of-part g.H.Honest.honest d.script d.board line c.take_line.new.board before (g.S.Sink.written c.args.sink.now) c.in_err-block.ensures.err h)

pub returns-in_err-block-clause-counted : goal.returns-in_err-block-clause-counted
returns-in_err-block-clause-counted g c = λ base h.
    let d = c.args.coordinator.now in
    counted-part g.H.Hand.runs g.H.Hand.faults base (d.hand ∷ []) d.board c.index-lines-coordinator.result c.take_line.new.board c.in_err-block.ensures.err h

pub returns-clause-front : goal.returns-clause-front
returns-clause-front g c =
    let d = c.args.coordinator.now in
    let line = c.index-lines-coordinator.result in
    let there = next d.script c.lines.result.now d.taken line c.lines.ensures c.requires.next c.index-lines-coordinator.is in
    let taken = subst (λ (loads : List SharedLoad). HasExecuted g.H.Honest.honest (map load_of loads) d.board line c.in_ok-block.block c.take_line.new.board) c.deref.ensures.value c.in_ok-block.ensures.ok in
    front-sound (inputs_in d.script (map load_of d.loads.items)) c.take_line.new.board (d.taken + 1) (sound-taken g.H.Honest.honest d.script (map load_of d.loads.items) d.board d.taken line c.in_ok-block.block c.take_line.new.board c.requires.given.rise there c.requires.sound taken)

pub returns-clause-sound : goal.returns-clause-sound
returns-clause-sound g c =
    let d = c.args.coordinator.now in
    let line = c.index-lines-coordinator.result in
    let there = next d.script c.lines.result.now d.taken line c.lines.ensures c.requires.next c.index-lines-coordinator.is in
    let taken = subst (λ (loads : List SharedLoad). HasExecuted g.H.Honest.honest (map load_of loads) d.board line c.in_ok-block.block c.take_line.new.board) c.deref.ensures.value c.in_ok-block.ensures.ok in
    ok_of c.write_block.result _ (sound-taken g.H.Honest.honest d.script (map load_of d.loads.items) d.board d.taken line c.in_ok-block.block c.take_line.new.board c.requires.given.rise there c.requires.sound taken)

pub returns-clause-written : goal.returns-clause-written
returns-clause-written g c =
    let d = c.args.coordinator.now in
    let line = c.index-lines-coordinator.result in
    let there = next d.script c.lines.result.now d.taken line c.lines.ensures c.requires.next c.index-lines-coordinator.is in
    let taken = subst (λ (loads : List SharedLoad). HasExecuted g.H.Honest.honest (map load_of loads) d.board line c.in_ok-block.block c.take_line.new.board) c.deref.ensures.value c.in_ok-block.ensures.ok in
    on_ok c.write_block.result _ _ (λ w before h. written-taken g.H.Honest.honest d.script (map load_of d.loads.items) d.board d.taken line c.in_ok-block.block c.take_line.new.board c.requires.given.rise there c.requires.sound before (g.S.Sink.written c.args.sink.now) (g.S.Sink.written c.write_block.new.sink) taken h w) c.write_block.ensures.ok

pub returns-clause-part : goal.returns-clause-part
returns-clause-part g c =
    let d = c.args.coordinator.now in
    let line = c.index-lines-coordinator.result in
    let there = next d.script c.lines.result.now d.taken line c.lines.ensures c.requires.next c.index-lines-coordinator.is in
    let taken = subst (λ (loads : List SharedLoad). HasExecuted g.H.Honest.honest (map load_of loads) d.board line c.in_ok-block.block c.take_line.new.board) c.deref.ensures.value c.in_ok-block.ensures.ok in
    on_err c.write_block.result _ _ (λ w before h. part-taken g.H.Honest.honest d.script (map load_of d.loads.items) d.board d.taken line c.in_ok-block.block c.take_line.new.board c.requires.given.rise there c.requires.sound before (g.S.Sink.written c.args.sink.now) (g.S.Sink.written c.write_block.new.sink) taken h w) c.write_block.ensures.part

pub returns-clause-counted : goal.returns-clause-counted
returns-clause-counted g c = λ base h.
    let d = c.args.coordinator.now in
    let line = c.index-lines-coordinator.result in
    let taken = subst (λ (loads : List SharedLoad). HasExecuted g.H.Honest.honest (map load_of loads) d.board line c.in_ok-block.block c.take_line.new.board) c.deref.ensures.value c.in_ok-block.ensures.ok in
    counted-taken g.H.Hand.runs g.H.Hand.faults base (d.hand ∷ []) g.H.Honest.honest (map load_of d.loads.items) d.board c.index-lines-coordinator.result c.in_ok-block.block c.take_line.new.board taken h

pub returns-in_err-block-clause-agrees : goal.returns-in_err-block-clause-agrees
returns-in_err-block-clause-agrees g c = λ base t.
    let d = c.args.coordinator.now in
    agrees-part g.H.Honest.honest g.H.Hand.fails g.H.Hand.calls base d.hand d.board c.index-lines-coordinator.result c.take_line.new.board c.in_err-block.ensures.err t

pub returns-clause-agrees : goal.returns-clause-agrees
returns-clause-agrees g c = λ base t.
    let d = c.args.coordinator.now in
    let line = c.index-lines-coordinator.result in
    let taken = subst (λ (loads : List SharedLoad). HasExecuted g.H.Honest.honest (map load_of loads) d.board line c.in_ok-block.block c.take_line.new.board) c.deref.ensures.value c.in_ok-block.ensures.ok in
    agrees-taken g.H.Honest.honest g.H.Hand.fails g.H.Hand.calls base d.hand (map load_of d.loads.items) d.board line c.in_ok-block.block c.take_line.new.board taken t

pub returns-in_err-block-clause-quiet : goal.returns-in_err-block-clause-quiet
returns-in_err-block-clause-quiet g c = λ none.
    (part-before c.args.coordinator.now.board c.index-lines-coordinator.result c.take_line.new.board c.in_err-block.ensures.err none, refl)

pub returns-clause-quiet : goal.returns-clause-quiet
returns-clause-quiet g c = λ none.
    let d = c.args.coordinator.now in
    let line = c.index-lines-coordinator.result in
    let taken = subst (λ (loads : List SharedLoad). HasExecuted g.H.Honest.honest (map load_of loads) d.board line c.in_ok-block.block c.take_line.new.board) c.deref.ensures.value c.in_ok-block.ensures.ok in
    absurd (taken-some g.H.Honest.honest (map load_of d.loads.items) d.board line c.in_ok-block.block c.take_line.new.board taken none)
