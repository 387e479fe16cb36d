use Rattle.std.proofs.Common.{sym, subst}
use Rattle.plain_answer.specs.declared.ask.Ask.{Ask}
use Rattle.run_history.specs.Commands.Turn.{QueryEnds}
use Rattle.run_history.specs.Histories.{IsInFlight}
use Rattle.run_history.specs.World.{World}
use Rattle.run_history.specs.declared.event.QueryOut.TheVariants.{Memory as NoAnswer}
use Rattle.board_pieces.proofs.Reached.{added-same, now-same}
use Rattle.board_pieces.proofs.pieces.refuse_query.Goals as goal

pub end_query-requires-clause-in_flight : goal.end_query-requires-clause-in_flight
end_query-requires-clause-in_flight g c = subst (λ (w : World Ask). IsInFlight w c.args.line) (sym (now-same c.args.board.now c.reserve_turn.new.self c.in_ok-reserve_turn.ensures.same)) c.requires

pub returns-clause-ended : goal.returns-clause-ended
returns-clause-ended g c = added-same c.args.board.now c.reserve_turn.new.self (QueryEnds c.args.line NoAnswer) c.end_query.new.self c.in_ok-reserve_turn.ensures.same c.end_query.ensures.added
