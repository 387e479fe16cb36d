-- Crash conditions of runs: of none, of one call more, of two in turn, and a condition that says less.
use Rattle.std.proofs.Common.{inl, inr, ⊎_elim, ℕ, List, arith}
use Rattle.disk_image.specs.Crashes.{CrashCondition, PassesTime}

module _ {D : Type 0} (clock : D → ℕ) (image_since : D → ℕ → List ℕ → Type 0) where
  -- a run without calls
  pub of_no_call : (disk : D) (Condition : List ℕ → Type 0) → ((left : List ℕ) → image_since disk (clock disk) left → Condition left) → CrashCondition clock image_since disk disk Condition
  of_no_call disk Condition now = record { clock_on = omega arith; meets = now; adds = λ time left earlier since. inl since }

  -- a condition that follows from the one that is met
  pub of_weaker : (old new : D) (Condition Weaker : List ℕ → Type 0) → ((left : List ℕ) → Condition left → Weaker left) → CrashCondition clock image_since old new Condition → CrashCondition clock image_since old new Weaker
  of_weaker old new Condition Weaker implies run = record {
    clock_on = run.clock_on;
    meets = λ left since. implies left (run.meets left since);
    adds = λ time left earlier since. ⊎_elim inl (λ met. inr (implies left met)) (run.adds time left earlier since);
  }

  -- a run, and then another
  pub of_both : (old mid new : D) (Condition : List ℕ → Type 0) → CrashCondition clock image_since old mid Condition → CrashCondition clock image_since mid new Condition → CrashCondition clock image_since old new Condition
  of_both old mid new Condition first second = record {
    clock_on = omega (arith, first.clock_on, second.clock_on);
    meets = λ left since. ⊎_elim (first.meets left) (λ met. met) (second.adds (clock old) left first.clock_on since);
    adds = λ time left earlier since. ⊎_elim (first.adds time left earlier) inr (second.adds time left (omega (arith, earlier, first.clock_on)) since);
  }

  -- a run, and then a call
  pub of_call_more : (old mid new : D) (Condition new_image : List ℕ → Type 0) → CrashCondition clock image_since old mid Condition → PassesTime (clock mid) (clock new) (image_since mid) (image_since new) new_image
      → ((left : List ℕ) → new_image left → Condition left) → CrashCondition clock image_since old new Condition
  of_call_more old mid new Condition new_image run time after = record {
    clock_on = omega (arith, run.clock_on, time.clock);
    meets = λ left since. ⊎_elim (run.meets left) (after left) (time.adds (clock old) left run.clock_on since);
    adds = λ at left earlier since. ⊎_elim (run.adds at left earlier) (λ added. inr (after left added)) (time.adds at left (omega (arith, earlier, run.clock_on)) since);
  }
