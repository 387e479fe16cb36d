-- A call of `step` without memory.
use Rattle.std.proofs.Common.{ℕ, List, Option, Some, None, refl, inl, inr, arith}
use Rattle.outside.specs.Contents.{Paths, SameElsewhere}
use Rattle.cubes_plain.specs.Steps.{FilesAt, IsStepRun, SinkAt}

-- files that are as they were are so elsewhere
same_elsewhere : (contents : Option Paths) (path : List ℕ) → SameElsewhere contents contents path
same_elsewhere None path = refl
same_elsewhere (Some paths) path = λ other no. refl

-- want of memory, where nothing changed
pub step_memory : (is_task : List ℕ → Type 0) (text : List ℕ → List ℕ) (files : FilesAt) (sink : SinkAt) (task product stop : List ℕ) → IsStepRun is_task text files files sink sink task product stop 1
step_memory is_task text files sink task product stop = record {
  which = inr (inl refl);
  done = λ e. absurd (omega (arith, e));
  write_fault = λ e. absurd (omega (arith, e));
  silent = λ e. refl;
  read_fault = λ e. absurd (omega (arith, e));
  stopped = λ e. absurd (omega (arith, e));
  bad_task = λ e. absurd (omega (arith, e));
  no_task = λ t. inr (inr refl);
  nothing_there = λ t. inr refl;
  complete = λ t f n. inr refl;
  elsewhere = same_elsewhere files.contents product;
  contents = λ a b. refl;
  write_faults = λ a. refl;
}
