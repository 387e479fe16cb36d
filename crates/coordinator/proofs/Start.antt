-- The board before the first turn.
use Rattle.std.proofs.Common.{◌≡◌, ℕ, zero, suc, ◌<◌, Option, Some, List, [], refl, sym, arith}
use Rattle.job_board.specs.BoardModel.{BoardModel}
use Rattle.run_history.specs.World.{Submitted, job_at}
use Rattle.run_transcript.specs.Served.{Inputs}
use Rattle.script_text.specs.declared.verb.Line.{Line}
use Rattle.coordinator.specs.Coordinator.{HasWritten, IsSound, RisesFrom}
use Rattle.coordinator.proofs.Written.{append_none}

abbrev pub empty_board : ℕ → BoardModel
empty_board workers = record { workers = workers; log = []; room = 0; products = [] }

no_job : (n : ℕ) (s : Submitted) → job_at [] n ≡ Some s → ⊥
no_job zero s e = cc
no_job (suc n) s e = cc

pub sound-start : (inputs : Inputs) → inputs.ready ≡ [] → 0 < inputs.workers → RisesFrom 0 inputs.script → IsSound inputs (empty_board inputs.workers) 0
sound-start inputs none some rise = record {
  within = omega arith;
  workers = refl;
  ready = none;
  named = refl;
  in_order = refl;
  later = rise;
  idle = record { workers = some; answers = λ session. omega arith; steps = refl; waiting = refl; asked = refl; not_in_flight = λ n s e. absurd (no_job n s e) };
  all_told = tt;
  no_stops = refl;
}

-- nothing is told, and nothing was written
pub written-start : (honest : Type 0) (script : List Line) (workers : ℕ) (before : Option (List ℕ)) → HasWritten honest script (empty_board workers) before before
written-start honest script workers before = λ trusted. sym (append_none before)
