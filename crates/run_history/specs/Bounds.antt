-- How large the numbers of a world get.
use Rattle.std.specs.Prelude.{◌≡◌, ◌≤◌, ℕ, length, Some}
use Rattle.run_history.specs.World.{Submitted, World, job_of, number}

-- jobs, the attempts of each job, versions and accepted queries are no more than so many
pub record AreAtMost {Query : Type 0} (most : ℕ) (w : World Query) : Type 0 where
  pub jobs : length w.jobs ≤ most
  pub attempts : (n : ℕ) (s : Submitted) → job_of w n ≡ Some s → s.job.attempt ≤ most
  pub versions : number w ≤ most
  pub accepted : w.accepted ≤ most
