use Rattle.coordinator.proofs.Queries.{is_accepted, part_taken}
use Rattle.coordinator.proofs.Results.{on_err}
use Rattle.coordinator.proofs.query.answer_query.Goals as goal

pub take_accepted-requires : goal.take_accepted-requires
take_accepted-requires g c =
    is_accepted c.args.board.now c.accept_query.new.board c.args.line c.args.session c.requires.idle c.in_ok-accept_query.ensures.ok

pub returns-clause-err : goal.returns-clause-err
returns-clause-err g c = on_err c.end_taken.result _ _
    (part_taken c.args.board.now c.accept_query.new.board c.args.line c.args.session c.requires.idle c.in_ok-accept_query.ensures.ok c.take_accepted.new.board c.in_ok-work.ensures.ok
    c.end_taken.new.board) c.end_taken.ensures.err
