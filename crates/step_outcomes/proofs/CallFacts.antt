-- What one turn more is to the calls of a hand.
use Rattle.std.proofs.Common.{◌≡◌, ℕ, ◌+◌, ◌≤◌, Bool, true, false, cond, ◌&&◌, ◌==◌, Option, Some, None, List, [], ◌∷◌, ◌++◌, refl, sym, ap, ◌∙◌, arith, append_assoc, append-nil}
use Rattle.std.specs.Prelude.{count_by, option_map}
use Rattle.std.specs.List.{AllByRecursion}
use Rattle.std.proofs.lemmas.List.Elements.{All-nil, All-push, All-weaker}
use Rattle.std.proofs.lemmas.List.Sums.{sum_by-append}
use Rattle.outside.specs.Hands.{Call, with_call}
use Rattle.run_history.specs.Commands.{Turn}
use Rattle.run_history.specs.Commands.Turn.{Takes, Claims, StepEnds, QueryTakes, QueryEnds}
use Rattle.run_history.specs.Cubes.{CubeSemantics}
use Rattle.run_history.specs.Steps.{world}
use Rattle.run_history.specs.World.{Submitted, job_of, next_task}
use Rattle.run_history.specs.declared.event.Outcome.{Outcome}
use Rattle.run_history.specs.declared.event.Outcome.TheVariants as outcome
use Rattle.step_outcomes.specs.Calls.{AreCallsOf, IsTaskOf, calls_of, is_call_of, is_end_of}
use Rattle.step_outcomes.specs.Ends.{EndsNoStep, is_no_memory}

-- the calls with some more, where they are told
abbrev pub with_calls : Option (List Call) → List Call → Option (List Call)
with_calls told calls = option_map (λ before. before ++ calls) told

pub calls-none : (told : Option (List Call)) → told ≡ with_calls told []
calls-none None = refl
calls-none (Some before) = ap Some (sym (append-nil before))

pub calls-more : (told : Option (List Call)) (calls : List Call) (call : Call) → with_call (with_calls told calls) call ≡ with_calls told (calls ++ call ∷ [])
calls-more None calls call = refl
calls-more (Some before) calls call = ap Some (append_assoc before calls (call ∷ []))

count_append : {X : Type 0} (test : X → Bool) (xs ys : List X) → count_by test (xs ++ ys) ≡ count_by test xs + count_by test ys
count_append test xs ys = sum_by-append (λ x. cond (test x) 1 0) xs ys

module _ {Query Answer : Type 0} (cube : CubeSemantics Query Answer) (honest : Type 0) (workers : ℕ) where
  task_later : (turns later : List (Turn Query)) (call : Call) → IsTaskOf cube workers turns call → IsTaskOf cube workers (turns ++ later) call
  task_later turns later call t = record {
    before = t.before;
    later = t.later ++ later;
    claimed = ap (λ (ts : List (Turn Query)). ts ++ later) t.claimed ∙ append_assoc t.before (Claims call.job call.attempt ∷ t.later) later;
    job = t.job;
    there = t.there;
    task = t.task;
  }

  silent_ends : (test : Outcome → Bool) (job attempt : ℕ) (later : List (Turn Query)) → AllByRecursion EndsNoStep later → count_by (is_end_of test job attempt) later ≡ 0
  silent_ends test job attempt [] h = refl
  silent_ends test job attempt (Claims claimed number ∷ later) h = silent_ends test job attempt later h.1
  silent_ends test job attempt (Takes line command ∷ later) h = silent_ends test job attempt later h.1
  silent_ends test job attempt (QueryTakes line ∷ later) h = silent_ends test job attempt later h.1
  silent_ends test job attempt (QueryEnds line out ∷ later) h = silent_ends test job attempt later h.1
  silent_ends test job attempt (StepEnds ended number outcome ∷ later) h = absurd h.0

  -- before the first turn
  pub calls-start : AreCallsOf cube honest workers [] []
  calls-start = record { at_most = λ job attempt. omega arith; at_least = λ job attempt. omega arith; tasks = λ h. All-nil (IsTaskOf cube workers []) }

  -- turns that end no step
  pub calls-silent : (turns later : List (Turn Query)) (calls : List Call) → AllByRecursion EndsNoStep later → AreCallsOf cube honest workers turns calls
      → AreCallsOf cube honest workers (turns ++ later) calls
  calls-silent turns later calls silent c = record {
    at_most = λ job attempt. omega (arith, c.at_most job attempt, count_append (is_end_of (λ outcome. true) job attempt) turns later);
    at_least = λ job attempt.
        omega (arith, c.at_least job attempt, count_append (is_end_of is_no_memory job attempt) turns later, silent_ends is_no_memory job attempt later silent);
    tasks = λ h. All-weaker (IsTaskOf cube workers turns) (IsTaskOf cube workers (turns ++ later)) (task_later turns later) calls (c.tasks h);
  }

  -- one end counts one, and its call too
  end_counts : (test : Outcome → Bool) (job attempt k number : ℕ) (o : Outcome) (turns : List (Turn Query)) → count_by (is_end_of test job attempt) (turns ++ Claims k number ∷ StepEnds k number o ∷ [])
      ≡ count_by (is_end_of test job attempt) turns + cond ((k == job) && (number == attempt) && test o) 1 0
  end_counts test job attempt k number o turns =
      let last : count_by (is_end_of {Query = Query} test job attempt) (Claims k number ∷ StepEnds k number o ∷ []) ≡ cond ((k == job) && (number == attempt) && test o) 1 0 = omega arith in
      omega (arith, count_append (is_end_of test job attempt) turns (Claims k number ∷ StepEnds k number o ∷ []), last)

  -- the step that is claimed next
  task_now : (turns later : List (Turn Query)) (call : Call) (s : Submitted) → job_of (world cube workers [] turns) call.job ≡ Some s → call.task ≡ next_task cube (world cube workers [] turns) s
      → IsTaskOf cube workers (turns ++ Claims call.job call.attempt ∷ later) call
  task_now turns later call s there task = record { before = turns; later = later; claimed = refl; job = s; there = there; task = task }

  module _ (turns : List (Turn Query)) (calls : List Call) (c : AreCallsOf cube honest workers turns calls) (call : Call) (o : Outcome) where
    abbrev step_turns : List (Turn Query)
    step_turns = Claims call.job call.attempt ∷ StepEnds call.job call.attempt o ∷ []

    call_counts : (job attempt : ℕ) → calls_of job attempt (calls ++ call ∷ []) ≡ calls_of job attempt calls + cond ((call.job == job) && (call.attempt == attempt)) 1 0
    call_counts job attempt = count_append (is_call_of job attempt) calls (call ∷ []) ∙ omega arith

    -- a step from its claim to its end, with its call
    pub calls-step : (s : Submitted) → (honest → (job_of (world cube workers [] turns) call.job ≡ Some s) × (call.task ≡ next_task cube (world cube workers [] turns) s))
        → AreCallsOf cube honest workers (turns ++ step_turns) (calls ++ call ∷ [])
    calls-step s task = record {
      at_most = λ job attempt. omega (
        arith,
        c.at_most job attempt,
        call_counts job attempt,
        end_counts (λ outcome. true) job attempt call.job call.attempt o turns,
        passes ((call.job == job) && (call.attempt == attempt)),
      );
      at_least = λ job attempt. omega (
        arith,
        c.at_least job attempt,
        call_counts job attempt,
        end_counts is_no_memory job attempt call.job call.attempt o turns,
        fewer ((call.job == job) && (call.attempt == attempt)) (is_no_memory o),
      );
      tasks = λ h. All-push (IsTaskOf cube workers (turns ++ step_turns)) calls call
          (All-weaker (IsTaskOf cube workers turns) (IsTaskOf cube workers (turns ++ step_turns)) (task_later turns step_turns) calls (c.tasks h))
          (task_now turns (StepEnds call.job call.attempt o ∷ []) call s (task h).0 (task h).1);
    }
      where
        passes : (b : Bool) → cond b 1 0 ≤ cond (b && true) 1 0
        passes true = omega arith
        passes false = omega arith

        fewer : (b t : Bool) → cond (b && t) 1 0 ≤ cond b 1 0
        fewer true true = omega arith
        fewer true false = omega arith
        fewer false t = omega arith

    -- .. or without one, where it found no memory
    pub calls-missed : o ≡ outcome.Memory → AreCallsOf cube honest workers (turns ++ step_turns) calls
    calls-missed memory = record {
      at_most = λ job attempt. omega (arith, c.at_most job attempt, end_counts (λ outcome. true) job attempt call.job call.attempt o turns);
      at_least = λ job attempt. omega (
        arith,
        c.at_least job attempt,
        end_counts is_no_memory job attempt call.job call.attempt o turns,
        none ((call.job == job) && (call.attempt == attempt)) (is_no_memory o) (ap is_no_memory memory),
      );
      tasks = λ h. All-weaker (IsTaskOf cube workers turns) (IsTaskOf cube workers (turns ++ step_turns)) (task_later turns step_turns) calls (c.tasks h);
    }
      where
        none : (b t : Bool) → t ≡ false → cond {A = ℕ} (b && t) 1 0 ≡ 0
        none true true e = absurd (let clash : true ≡ false = e in cc)
        none true false e = refl
        none false t e = refl
