use Rattle.std.proofs.Common.{◌≡◌, refl}
use Rattle.job_machine.specs.declared.state.JobState.TheVariants.{Finished, Discarded}
use Rattle.job_machine.specs.Job.{JobRecord, Act, state_after, moved_or_same}
use Rattle.job_machine.specs.Job.Act.{Claim, Advance, Finish, Fail, Pause, Resume, Discard}
use Rattle.job_machine.proofs.laws.ended_jobs_stay.Goals as goal

finished : (act : Act) (job : JobRecord) → moved_or_same act (state_after act Finished) job ≡ job
finished Claim job = refl
finished Advance job = refl
finished Finish job = refl
finished Fail job = refl
finished Pause job = refl
finished Resume job = refl
finished Discard job = refl

discarded : (act : Act) (job : JobRecord) → moved_or_same act (state_after act Discarded) job ≡ job
discarded Claim job = refl
discarded Advance job = refl
discarded Finish job = refl
discarded Fail job = refl
discarded Pause job = refl
discarded Resume job = refl
discarded Discard job = refl

pub returns-clause-finished : goal.returns-clause-finished
returns-clause-finished c = λ act job e. rw e (finished act _)

pub returns-clause-discarded : goal.returns-clause-discarded
returns-clause-discarded c = λ act job e. rw e (discarded act _)
