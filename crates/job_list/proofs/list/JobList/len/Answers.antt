use Rattle.std.proofs.Common.{ℕ, ◌<◌, length, get_or, subst}
use Rattle.job_list.specs.JobList.{NumberList}
use Rattle.job_list.proofs.Numbers.{has-get_or}
use Rattle.job_list.proofs.Splices.{below-IsLinked}
use Rattle.job_list.proofs.list.JobList.len.Goals as goal

pub returns-clause-below : goal.returns-clause-below
returns-clause-below c =
    subst (λ (v : NumberList). (k d : ℕ) → k < length v.items → get_or v.items k d < v.capacity) c.self.view_is
    (λ k d h. below-IsLinked _ _ _ _ _ c.self.invariant _ (has-get_or _ k d h))
