use Rattle.std.proofs.Common.{◌≡◌, ◌≤◌, ℕ, List, [], ◌∷◌, Option, map}
use Rattle.coordinator.specs.Coordinator.{AreGiven, HasWritten, IsCounted, IsSound, inputs_in, load_of}
use Rattle.job_board.specs.BoardModel.{turns}
use Rattle.coordinator.specs.HandAgreement.{AgreesWithHand}
use Rattle.coordinator.proofs.run.drive.Given as goal

abbrev pub invariant-loop : goal.invariant-loop
invariant-loop g l =
    (goal.iterator-loop g).can_next l.iterator' × (goal.iterator-loop g).is_finite l.iterator'
    × (l.coordinator.script ≡ l.initial.coordinator.script)
    × (l.coordinator.loads ≡ l.initial.coordinator.loads)
    × AreGiven l.coordinator.script (map load_of l.coordinator.loads.items)
    × IsSound (inputs_in l.coordinator.script (map load_of l.coordinator.loads.items)) l.coordinator.board l.coordinator.taken
    × ((before : Option (List ℕ)) → HasWritten g.H.Honest.honest l.initial.coordinator.script l.initial.coordinator.board before (g.S.Sink.written l.initial.sink) → HasWritten g.H.Honest.honest l.initial.coordinator.script l.coordinator.board before (g.S.Sink.written l.sink))
    × ((base : List g.row.H.Denot) → IsCounted g.H.Hand.runs g.H.Hand.faults base (l.initial.coordinator.hand ∷ []) l.initial.coordinator.board → IsCounted g.H.Hand.runs g.H.Hand.faults base (l.coordinator.hand ∷ []) l.coordinator.board)
    × (g.S.Sink.faults l.initial.sink ≤ g.S.Sink.faults l.sink)
    × ((base : g.row.H.Denot) → AgreesWithHand g.H.Honest.honest g.H.Hand.fails g.H.Hand.calls base l.initial.coordinator.hand l.initial.coordinator.board → AgreesWithHand g.H.Honest.honest g.H.Hand.fails g.H.Hand.calls base l.coordinator.hand l.coordinator.board)
    × (l.stopper ≡ l.initial.stopper)
    × (turns l.coordinator.board ≡ [] → (turns l.initial.coordinator.board ≡ []) × (g.S.Sink.written l.sink ≡ g.S.Sink.written l.initial.sink))
