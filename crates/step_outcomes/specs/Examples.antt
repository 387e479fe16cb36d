-- A run whose second attempt is killed, and what its hand tells of it.
use Rattle.std.specs.Prelude.{List, [], ◌∷◌}
use Rattle.outside.specs.Hands.{Call, Fail, call_of}
use Rattle.outside.specs.declared.hand.HandFault.TheVariants as fault
use Rattle.plain_answer.specs.declared.ask.Ask.{Ask}
use Rattle.run_history.specs.Commands.{Turn}
use Rattle.run_transcript.specs.Examples.{history, inputs, served}
use Rattle.run_transcript.specs.Runs.{turns_of}

-- the turns of a build whose second attempt is killed, its resume, and a query
abbrev pub killed_run : List (Turn Ask)
killed_run = turns_of served inputs history

-- the second attempt of job 1 is killed
abbrev pub one_kill : List Fail
one_kill = record { job = 1; attempt = 2; fault = fault.Killed } ∷ []

-- the calls of its four attempts: a task of the small cube is the number of parts and that of the steps done
abbrev pub four_calls : List Call
four_calls = call_of 1 1 (1 ∷ 0 ∷ []) ∷ call_of 1 2 (1 ∷ 1 ∷ []) ∷ call_of 1 3 (1 ∷ 1 ∷ []) ∷ call_of 1 4 (1 ∷ 2 ∷ []) ∷ []
