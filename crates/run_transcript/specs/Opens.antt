-- The entries that are open, and the queries without their end.
use Rattle.std.specs.Prelude.{◌≡◌, ℕ, true, Bool, ◌||◌, ◌==◌, List, [], ◌∷◌}
use Rattle.std.specs.List.{list_any}
use Rattle.run_history.specs.World.{World}
use Rattle.run_transcript.specs.Entries.{Entry}
use Rattle.run_transcript.specs.Entries.Entry.{Told, Open}

-- the query of this line waits or is in flight
abbrev pub is_unanswered : {Query : Type 0} → ℕ → World Query → Bool
is_unanswered line w = list_any (λ q. q.line == line) w.waiting || list_any (λ q. q.waiting.line == line) w.asked

-- each open entry is of a query that waits or is in flight
abbrev pub AreUnanswered : {Query : Type 0} → World Query → List Entry → Type 0
AreUnanswered w [] = Unit {0}
AreUnanswered w (Told line block ∷ entries) = AreUnanswered w entries
AreUnanswered w (Open line ∷ entries) = (is_unanswered line w ≡ true) × AreUnanswered w entries

-- no entry is open
abbrev pub AreTold : List Entry → Type 0
AreTold [] = Unit {0}
AreTold (Told line block ∷ entries) = AreTold entries
AreTold (Open line ∷ entries) = ⊥
