-- Small cases on which the definitions are computed.
use Rattle.std.specs.Prelude.{ℕ, Bool, true, List, [], ◌∷◌, Option, None}
use Rattle.fixed_cube.specs.Answers.{by_first}
use Rattle.job_machine.specs.declared.state.JobKind.TheVariants.{Build}
use Rattle.job_machine.specs.declared.state.JobState.TheVariants.{Running}
use Rattle.plain_answer.specs.declared.ask.Ask.{Ask}
use Rattle.run_history.specs.World.{Asked, Submitted, Waiting, World, start}

abbrev waits : ℕ → ℕ → Waiting Ask
waits line session = record { line = line; session = session; query = by_first; at_command = 0 }

-- two queries of session 4 and one of session 9
abbrev pub three_waiting : World Ask
three_waiting = record (start 2 1 []) { waiting = waits 1 4 ∷ waits 2 4 ∷ waits 3 9 ∷ [] }

-- the first of them in flight
abbrev pub first_in_flight : World Ask
first_in_flight = record (start 2 1 []) { waiting = waits 2 4 ∷ waits 3 9 ∷ []; asked = record { waiting = waits 1 4; at_take = 0 } ∷ [] }

-- job 1 in flight under attempt 2, so many of its three steps done
abbrev pub second_attempt : ℕ → Submitted
second_attempt done = record {
  job = record { id = 1; kind = Build; steps = 3; done = done; attempt = 2; in_flight = true; state = Running };
  range = record { start = 0; end = 1 };
  tables = None;
}
