use Rattle.std.proofs.Common.{length, map, ap, ◌∙◌, subst}
use Rattle.std.specs.Io.KnownBytes.{append_known}
use Rattle.job_board.specs.BoardModel.{now}
use Rattle.outside.specs.Written.{AppendsPart}
use Rattle.run_transcript.specs.Entries.{tally_of}
use Rattle.coordinator.specs.Coordinator.{inputs_in, load_of}
use Rattle.coordinator.proofs.Endings.{end-line}
use Rattle.coordinator.proofs.Results.{on_err, on_ok}
use Rattle.coordinator.proofs.NextTurns.{done-without_turn}
use Rattle.coordinator.proofs.run.end.Goals as goal

pub returns-in_err-put_end-clause-done : goal.returns-in_err-put_end-clause-done
returns-in_err-put_end-clause-done g c =
    let d = c.args.coordinator.now in
    done-without_turn (inputs_in d.script (map load_of d.loads.items)) d.board d.taken c.requires.sound c.requires.no_next_turn c.jobs.ensures.rest

pub returns-clause-done : goal.returns-clause-done
returns-clause-done g c =
    let d = c.args.coordinator.now in
    done-without_turn (inputs_in d.script (map load_of d.loads.items)) d.board d.taken c.requires.sound c.requires.no_next_turn c.jobs.ensures.rest

pub returns-clause-written : goal.returns-clause-written
returns-clause-written g c =
    let d = c.args.coordinator.now in
    let line = end-line c.as_slice.result.now c.put_end.new.out.items c.new-text.result.items c.tally_of-tally.result (tally_of (now d.board).jobs) c.len-segments.result (length (now d.board).ready)
    c.as_slice.ensures.value c.in_ok-put_end.ensures.ok c.new-text.ensures.items (c.tally_of-tally.ensures ∙ ap tally_of c.jobs.ensures.jobs)
    (c.len-segments.ensures ∙ ap length c.ready.ensures.ready) in
    on_ok c.put.result _ _ (λ h. h ∙ ap (append_known (g.S.Sink.written c.args.sink.now)) line) c.put.ensures.ok

pub returns-clause-part : goal.returns-clause-part
returns-clause-part g c =
    let d = c.args.coordinator.now in
    let line = end-line c.as_slice.result.now c.put_end.new.out.items c.new-text.result.items c.tally_of-tally.result (tally_of (now d.board).jobs) c.len-segments.result (length (now d.board).ready)
    c.as_slice.ensures.value c.in_ok-put_end.ensures.ok c.new-text.ensures.items (c.tally_of-tally.ensures ∙ ap tally_of c.jobs.ensures.jobs)
    (c.len-segments.ensures ∙ ap length c.ready.ensures.ready) in
    on_err c.put.result _ _ (subst (AppendsPart (g.S.Sink.written c.args.sink.now) (g.S.Sink.written c.put.new.sink)) line) c.put.ensures.part
