-- Small cases on which the definitions are computed.
use Rattle.std.specs.Prelude.{Bool, List, [], ◌∷◌}
use Rattle.job_machine.specs.Job.{JobRecord}
use Rattle.job_machine.specs.declared.state.JobKind.TheVariants.{Build}
use Rattle.job_machine.specs.declared.state.JobState.{JobState}
use Rattle.run_state.specs.declared.parts.Session.{Session}

-- job 1, a BUILD of three steps of which one is done, at its second attempt
abbrev pub second_attempt : Bool → JobState → JobRecord
second_attempt in_flight state = record { id = 1; kind = Build; steps = 3; done = 1; attempt = 2; in_flight = in_flight; state = state }

-- session 4 was answered over the set of version 3, session 7 not yet
abbrev pub two_sessions : List Session
two_sessions = record { session = 4; answered = 3 } ∷ record { session = 7; answered = 0 } ∷ []
