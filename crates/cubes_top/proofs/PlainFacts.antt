-- Words that are no run.
use Rattle.std.proofs.Common.{◌≡◌, List, refl, inl, inr, arith}
use Rattle.std.specs.declared.alloc.Global.{Global}
use Rattle.std.specs.declared.string.String.{String}
use Rattle.cubes_top.specs.Outside.{Outside}
use Rattle.cubes_top.specs.Plain.{IsPlain}

-- want of memory, where nothing was written
pub plain-memory : (words : List (String Global)) (o : Outside) → o.after ≡ o.before → IsPlain words o 1
plain-memory words o same = record {
  which = inr (inl refl);
  done = λ e. absurd (omega (arith, e));
  memory = λ e. same;
  read_fault = λ e. absurd (omega (arith, e));
  write_fault = λ e. absurd (omega (arith, e));
  bad_descriptor = λ e. absurd (omega (arith, e));
  bad_table = λ e. absurd (omega (arith, e));
  too_large = λ e. absurd (omega (arith, e));
  nothing_there = λ path w t. inr refl;
  longer = λ path w t. inr refl;
  misdescribed = λ path fault w t. inr (inr refl);
  faulty = λ path fault w t. inr (inr refl);
  accepted = λ path rows w t n. inr refl;
  described = λ path cube w t n. inr refl;
}
