use Rattle.std.proofs.Common.{refl, sym, subst}
use Rattle.job_board.specs.BoardModel.{IsAdded, now}
use Rattle.run_history.specs.Commands.Turn.{QueryEnds}
use Rattle.run_history.specs.Histories.{IsFresh}
use Rattle.run_history.specs.declared.event.QueryOut.{QueryOut}
use Rattle.board_pieces.proofs.pieces.record_end.Goals as goal

pub end_step-requires-clause-claimed : goal.end_step-requires-clause-claimed
end_step-requires-clause-claimed g c = let h = rw c.in-Step.is at c.requires.may in h.0

pub end_step-requires-clause-product : goal.end_step-requires-clause-product
end_step-requires-clause-product g c = let h = rw c.in-Step.is at c.requires.may in h.1

pub returns-in-Step : goal.returns-in-Step
returns-in-Step g c = rw c.in-Step.is (c.end_step.result, c.end_step.ensures.added, c.end_step.ensures.outcome, c.end_step.ensures.honest)

pub end_query-requires-clause-in_flight : goal.end_query-requires-clause-in_flight
end_query-requires-clause-in_flight g c = let h = rw c.in-Query.is at c.requires.may in h.0

pub end_query-requires-clause-fresh : goal.end_query-requires-clause-fresh
end_query-requires-clause-fresh g c = let h = rw c.in-Query.is at c.requires.may in subst (λ (o : QueryOut). IsFresh (now c.args.board.now) (QueryEnds c.in-Query.line o)) (sym c.out_of.ensures) h.1

pub returns-in-Query : goal.returns-in-Query
returns-in-Query g c = rw c.in-Query.is (refl, refl, subst (λ (o : QueryOut). IsAdded c.args.board.now (QueryEnds c.in-Query.line o) c.end_query.new.self) c.out_of.ensures c.end_query.ensures.added)
