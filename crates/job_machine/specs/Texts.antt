-- The printed words of states and kinds.
use Rattle.std.specs.Prelude.{ℕ, List, codes}
use Rattle.job_machine.specs.declared.state.JobState.{JobState}
use Rattle.job_machine.specs.declared.state.JobState.TheVariants.{Pending, Running, Error, Stopped, Discarded, Finished}
use Rattle.job_machine.specs.declared.state.JobKind.{JobKind}
use Rattle.job_machine.specs.declared.state.JobKind.TheVariants.{Build, Refresh, Merge}

abbrev pub state_text : JobState → List ℕ
state_text Pending = codes "PENDING"
state_text Running = codes "RUNNING"
state_text Error = codes "ERROR"
state_text Stopped = codes "STOPPED"
state_text Discarded = codes "DISCARDED"
state_text Finished = codes "FINISHED"

abbrev pub kind_text : JobKind → List ℕ
kind_text Build = codes "BUILD"
kind_text Refresh = codes "REFRESH"
kind_text Merge = codes "MERGE"
