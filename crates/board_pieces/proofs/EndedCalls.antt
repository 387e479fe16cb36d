-- What the end of a step is to the calls of hands, where its claim came before.
use Rattle.std.proofs.Common.{◌≡◌, ℕ, ◌+◌, ◌≤◌, Bool, true, false, cond, ◌&&◌, ◌==◌, List, [], ◌∷◌, ◌++◌, refl, ap, ◌∙◌, arith, append_assoc}
use Rattle.std.specs.Prelude.{count_by}
use Rattle.std.proofs.lemmas.List.Elements.{All-push, All-weaker}
use Rattle.outside.specs.Hands.{Call}
use Rattle.run_history.specs.Commands.{Turn}
use Rattle.run_history.specs.Commands.Turn.{Claims, StepEnds}
use Rattle.run_history.specs.Cubes.{CubeSemantics}
use Rattle.run_history.specs.declared.event.Outcome.{Outcome}
use Rattle.run_history.specs.declared.event.Outcome.TheVariants as outcome
use Rattle.step_outcomes.specs.Calls.{AreCallsOf, IsTaskOf, calls_of, is_call_of, is_end_of}
use Rattle.step_outcomes.specs.Ends.{is_no_memory}
use Rattle.board_pieces.proofs.Members.{count-append}

passes : (b : Bool) → cond b 1 0 ≤ cond (b && true) 1 0
passes true = omega arith
passes false = omega arith

fewer : (b t : Bool) → cond (b && t) 1 0 ≤ cond b 1 0
fewer true true = omega arith
fewer true false = omega arith
fewer false t = omega arith

none : (b t : Bool) → t ≡ false → cond {A = ℕ} (b && t) 1 0 ≡ 0
none true true e = absurd (let clash : true ≡ false = e in cc)
none true false e = refl
none false t e = refl

module _ {Query Answer : Type 0} (cube : CubeSemantics Query Answer) (honest : Type 0) (workers : ℕ) (turns : List (Turn Query)) (calls : List Call) (c : AreCallsOf cube honest workers turns calls) where
  task_later : (later : List (Turn Query)) (call : Call) → IsTaskOf cube workers turns call → IsTaskOf cube workers (turns ++ later) call
  task_later later call t = record {
    before = t.before;
    later = t.later ++ later;
    claimed = ap (λ (ts : List (Turn Query)). ts ++ later) t.claimed ∙ append_assoc t.before (Claims call.job call.attempt ∷ t.later) later;
    job = t.job;
    there = t.there;
    task = t.task;
  }

  module _ (call : Call) (o : Outcome) where
    abbrev ending : List (Turn Query)
    ending = StepEnds call.job call.attempt o ∷ []

    ends_more : (test : Outcome → Bool) (job attempt : ℕ) → count_by (is_end_of test job attempt) (turns ++ ending)
        ≡ count_by (is_end_of test job attempt) turns + cond ((call.job == job) && (call.attempt == attempt) && test o) 1 0
    ends_more test job attempt =
        let last : count_by (is_end_of test job attempt) ending ≡ cond ((call.job == job) && (call.attempt == attempt) && test o) 1 0 = omega arith in
        omega (arith, count-append (is_end_of test job attempt) turns ending, last)

    calls_more : (job attempt : ℕ) → calls_of job attempt (calls ++ call ∷ []) ≡ calls_of job attempt calls + cond ((call.job == job) && (call.attempt == attempt)) 1 0
    calls_more job attempt = count-append (is_call_of job attempt) calls (call ∷ []) ∙ omega arith

    -- a step's end, with its call
    pub calls-ended : (honest → IsTaskOf cube workers turns call) → AreCallsOf cube honest workers (turns ++ ending) (calls ++ call ∷ [])
    calls-ended task = record {
      at_most = λ job attempt. omega (
        arith,
        c.at_most job attempt,
        calls_more job attempt,
        ends_more (λ outcome. true) job attempt,
        passes ((call.job == job) && (call.attempt == attempt)),
      );
      at_least = λ job attempt. omega (
        arith,
        c.at_least job attempt,
        calls_more job attempt,
        ends_more is_no_memory job attempt,
        fewer ((call.job == job) && (call.attempt == attempt)) (is_no_memory o),
      );
      tasks = λ h. All-push (IsTaskOf cube workers (turns ++ ending)) calls call
          (All-weaker (IsTaskOf cube workers turns) (IsTaskOf cube workers (turns ++ ending)) (task_later ending) calls (c.tasks h)) (task_later ending call (task h));
    }

    -- .. or without one, where it found no memory
    pub calls-ended_missed : o ≡ outcome.Memory → AreCallsOf cube honest workers (turns ++ ending) calls
    calls-ended_missed memory = record {
      at_most = λ job attempt. omega (arith, c.at_most job attempt, ends_more (λ outcome. true) job attempt);
      at_least = λ job attempt. omega (
        arith,
        c.at_least job attempt,
        ends_more is_no_memory job attempt,
        none ((call.job == job) && (call.attempt == attempt)) (is_no_memory o) (ap is_no_memory memory),
      );
      tasks = λ h. All-weaker (IsTaskOf cube workers turns) (IsTaskOf cube workers (turns ++ ending)) (task_later ending) calls (c.tasks h);
    }
