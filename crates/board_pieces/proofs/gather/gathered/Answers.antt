use Rattle.std.proofs.Common.{◌≡◌, [], List, rules, sym, subst, ◌∙◌}
use Rattle.outside.specs.Rises.{Risen, TellSame}
use Rattle.outside.proofs.Rises.{Risen-then, TellSame-then}
use Rattle.worker_pool.specs.Pools.{PoolModel, hands}
use Rattle.fixed_query.specs.declared.query.FixedQuery.{FixedQuery}
use Rattle.board_pieces.proofs.KeepUp.{all-free, gathered-fails, gathered-faults, gathered-runs}
use Rattle.board_pieces.proofs.gather.gathered.Goals as goal

pub returns-then-is_none-clause-runs : goal.returns-then-is_none-clause-runs
returns-then-is_none-clause-runs g c =
    let empty : c.wait_any.new.self.in_flight ≡ [] = search rules in
    subst (λ (hs : List g.row.H.Denot). Risen g.H.Hand.runs (hands c.args.pool) hs 0) (all-free c.wait_any.new.self c.into_hands.result.items empty c.into_hands.ensures)
    (Risen-then g.H.Hand.runs (hands c.args.pool) (hands c.loop.pool) (hands c.wait_any.new.self) 0 0 c.loop.invariant.2 (gathered-runs g.H.Honest.honest g.H.Hand.runs g.H.Hand.faults g.H.Hand.fails g.H.Hand.calls c.loop.pool c.wait_any.new.self c.wait_any.result c.wait_any.ensures.same c.wait_any.ensures.landed))

pub returns-then-is_none-clause-faults : goal.returns-then-is_none-clause-faults
returns-then-is_none-clause-faults g c =
    let empty : c.wait_any.new.self.in_flight ≡ [] = search rules in
    subst (λ (hs : List g.row.H.Denot). Risen g.H.Hand.faults (hands c.args.pool) hs 0) (all-free c.wait_any.new.self c.into_hands.result.items empty c.into_hands.ensures)
    (Risen-then g.H.Hand.faults (hands c.args.pool) (hands c.loop.pool) (hands c.wait_any.new.self) 0 0 c.loop.invariant.3 (gathered-faults g.H.Honest.honest g.H.Hand.runs g.H.Hand.faults g.H.Hand.fails g.H.Hand.calls c.loop.pool c.wait_any.new.self c.wait_any.result c.wait_any.ensures.same c.wait_any.ensures.landed))

pub returns-then-is_none-clause-fails : goal.returns-then-is_none-clause-fails
returns-then-is_none-clause-fails g c =
    let empty : c.wait_any.new.self.in_flight ≡ [] = search rules in
    subst (λ (hs : List g.row.H.Denot). TellSame g.H.Hand.fails (hands c.args.pool) hs) (all-free c.wait_any.new.self c.into_hands.result.items empty c.into_hands.ensures)
    (TellSame-then g.H.Hand.fails (hands c.args.pool) (hands c.loop.pool) (hands c.wait_any.new.self) c.loop.invariant.4 (gathered-fails g.H.Honest.honest g.H.Hand.runs g.H.Hand.faults g.H.Hand.fails g.H.Hand.calls c.loop.pool c.wait_any.new.self c.wait_any.result c.wait_any.ensures.same c.wait_any.ensures.landed))

pub loop-preserved : goal.loop-preserved
loop-preserved g c = (
  tt,
  tt,
  Risen-then g.H.Hand.runs (hands c.args.pool) (hands c.loop.pool) (hands c.wait_any.new.self) 0 0 c.loop.invariant.2 (gathered-runs g.H.Honest.honest g.H.Hand.runs g.H.Hand.faults g.H.Hand.fails g.H.Hand.calls c.loop.pool c.wait_any.new.self c.wait_any.result c.wait_any.ensures.same c.wait_any.ensures.landed),
  Risen-then g.H.Hand.faults (hands c.args.pool) (hands c.loop.pool) (hands c.wait_any.new.self) 0 0 c.loop.invariant.3 (gathered-faults g.H.Honest.honest g.H.Hand.runs g.H.Hand.faults g.H.Hand.fails g.H.Hand.calls c.loop.pool c.wait_any.new.self c.wait_any.result c.wait_any.ensures.same c.wait_any.ensures.landed),
  TellSame-then g.H.Hand.fails (hands c.args.pool) (hands c.loop.pool) (hands c.wait_any.new.self) c.loop.invariant.4 (gathered-fails g.H.Honest.honest g.H.Hand.runs g.H.Hand.faults g.H.Hand.fails g.H.Hand.calls c.loop.pool c.wait_any.new.self c.wait_any.result c.wait_any.ensures.same c.wait_any.ensures.landed),
  λ none. (
      let at = c.loop.invariant.5 none in
      let still : c.loop.pool.in_flight ≡ [] = subst (λ (p : PoolModel g.row.H.Denot FixedQuery). p.in_flight ≡ []) (sym at) none in
      c.wait_any.ensures.same (c.wait_any.ensures.none.1 still) ∙ at
      ),
)
