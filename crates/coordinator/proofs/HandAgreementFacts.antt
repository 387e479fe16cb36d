-- Turns more, and the hand.
use Rattle.std.proofs.Common.{◌≡◌, ℕ, zero, suc, Bool, true, false, Option, Some, None, List, [], ◌∷◌, ◌++◌, All, map, take, refl, sym, ap, ◌∙◌, subst, inl, inr, append_assoc}
use Rattle.std.specs.List.{AllByRecursion}
use Rattle.std.proofs.lemmas.List.{map-append}
use Rattle.std.proofs.lemmas.List.Elements.{All-append, All-from_recursion, All-nil}
use Rattle.job_board.specs.Ledger.{Answer, cube}
use Rattle.job_board.specs.BoardModel.{IsAdded, IsCountedAs, IsRecordedAs, IsSame, BoardModel, task_of, turns}
use Rattle.job_board.specs.declared.answers.Work.{Work}
use Rattle.job_machine.specs.Job.{is_current}
use Rattle.outside.specs.Hands.{Call, Fail, call_of, with_call}
use Rattle.plain_answer.specs.declared.ask.Ask.{Ask}
use Rattle.run_history.specs.Commands.{Turn, event_of}
use Rattle.run_history.specs.Commands.Turn.{Takes, Claims, StepEnds, QueryEnds}
use Rattle.run_history.specs.World.{Submitted, World}
use Rattle.run_history.specs.declared.event.Event.{Event}
use Rattle.run_history.specs.declared.event.Outcome.{Outcome}
use Rattle.run_inputs.specs.declared.inputs.LoadedTable.{LoadedTable}
use Rattle.run_transcript.specs.Runs.{turns_of}
use Rattle.run_transcript.specs.Served.{Inputs, command_of}
use Rattle.script_text.specs.declared.block.Block.{Block}
use Rattle.script_text.specs.declared.verb.Line.{Line}
use Rattle.coordinator.specs.Claims.{IsClaimed}
use Rattle.coordinator.specs.Coordinator.{IsFront, IsGrown, asked_turns}
use Rattle.coordinator.specs.Served.{rows_at, served}
use Rattle.coordinator.specs.ExecutedLines.{HasExecuted, HasExecutedPart}
use Rattle.coordinator.specs.HandAgreement.{HasRun, AgreesWithHand}
use Rattle.step_outcomes.specs.Ends.{EndsNoStep}
use Rattle.step_outcomes.specs.Calls.{AreCallsOf}
use Rattle.step_outcomes.specs.Ends.{IsUndamaged}
use Rattle.step_outcomes.specs.Faults.{IsEndBy}
use Rattle.coordinator.proofs.Boards.{grown-added, grown-same}
use Rattle.coordinator.proofs.Start.{empty_board}
use Rattle.step_outcomes.proofs.CallFacts.{calls-missed, calls-more, calls-none, calls-silent, calls-start, calls-step, with_calls}
use Rattle.step_outcomes.proofs.AnswerFacts.{IsOfAnswer, current_answer, stale_answer}
use Rattle.step_outcomes.proofs.FaultFacts.{no_damage, silent_ends, silent_sound}

-- ---- what is recorded of an answer

counted_answer : (b : Bool) (task : List ℕ) (answer : Answer) (o : Outcome) → IsCountedAs b task answer o → IsOfAnswer answer o
counted_answer true task answer o h = current_answer task answer o h
counted_answer false task answer o h = stale_answer answer o h

pub recorded-answer : (w : World Ask) (found : Option Submitted) (products : List (List ℕ)) (attempt : ℕ) (answer : Answer) (o : Outcome)
    → IsRecordedAs w found products attempt answer o → IsOfAnswer answer o
recorded-answer w None products attempt answer o h = stale_answer answer o h
recorded-answer w (Some s) products attempt answer o h = counted_answer (is_current s.job attempt) (task_of w s products) answer o h

-- ---- turns

all_grown : (P : Event → Type 0) (old new later : List (Turn Ask)) → new ≡ old ++ later → All P (map event_of old) → AllByRecursion P (map event_of later) → All P (map event_of new)
all_grown P old new later e h k =
    subst (All P) (sym (ap (map event_of) e ∙ map-append event_of old later)) (All-append P (map event_of old) (map event_of later) h (All-from_recursion P (map event_of later) k))

module _ {H : Type 0} (honest : Type 0) (fails : H → Option (List Fail)) (calls : H → Option (List Call)) (base : H) where
  -- turns that end no step
  pub agrees-silent : (hand : H) (old new : BoardModel) (later : List (Turn Ask)) → IsGrown old later new → AllByRecursion EndsNoStep later → AgreesWithHand honest fails calls base hand old
      → AgreesWithHand honest fails calls base hand new
  agrees-silent hand old new later g silent t = record {
    fails_same = t.fails_same;
    follows = λ told e. all_grown (IsEndBy told) (turns old) (turns new) later g.turns (t.follows told e) (silent_ends told later silent);
    sound = λ trust. all_grown IsUndamaged (turns old) (turns new) later g.turns (t.sound trust) (silent_sound later silent);
    new_calls = t.new_calls;
    told_calls = t.told_calls;
    are_calls =
        subst (λ (n : ℕ). AreCallsOf cube honest n (turns new) t.new_calls) (sym g.workers)
        (subst (λ (ts : List (Turn Ask)). AreCallsOf cube honest old.workers ts t.new_calls) (sym g.turns)
        (calls-silent cube honest old.workers (turns old) later t.new_calls silent t.are_calls));
  }

  -- a step from its claim to its end
  module _ (hand hand' : H) (old mid new : BoardModel) (work : Work) (o : Outcome) (claimed : IsClaimed honest old work mid) (ended : IsAdded mid (StepEnds work.job work.attempt o) new)
      (ran : HasRun honest fails calls work hand hand' o) (t : AgreesWithHand honest fails calls base hand old) where
    abbrev call : Call
    call = call_of work.job work.attempt work.task.items

    abbrev step_turns : List (Turn Ask)
    step_turns = Claims work.job work.attempt ∷ StepEnds work.job work.attempt o ∷ []

    grown : turns new ≡ turns old ++ step_turns
    grown =
        ended.turns ∙ (ap (λ (ts : List (Turn Ask)). ts ++ StepEnds work.job work.attempt o ∷ []) claimed.added.turns
        ∙ append_assoc (turns old) (Claims work.job work.attempt ∷ []) (StepEnds work.job work.attempt o ∷ []))

    workers : new.workers ≡ old.workers
    workers = ended.workers ∙ claimed.added.workers

    moved : (cs : List Call) → AreCallsOf cube honest old.workers (turns old ++ step_turns) cs → AreCallsOf cube honest new.workers (turns new) cs
    moved cs c =
        subst (λ (n : ℕ). AreCallsOf cube honest n (turns new) cs) (sym workers) (subst (λ (ts : List (Turn Ask)). AreCallsOf cube honest old.workers ts cs) (sym grown) c)

    -- .. with the calls that are new then
    agrees_with : (cs : List Call) → calls hand' ≡ with_calls (calls base) cs → AreCallsOf cube honest old.workers (turns old ++ step_turns) cs → AgreesWithHand honest fails calls base hand' new
    agrees_with cs told c = record {
      fails_same = ran.fails_same ∙ t.fails_same;
      follows = λ list e. all_grown (IsEndBy list) (turns old) (turns new) step_turns grown (t.follows list e) (tt, (ran.follows list (t.fails_same ∙ e), tt));
      sound = λ trust. all_grown IsUndamaged (turns old) (turns new) step_turns grown (t.sound trust) (refl, (no_damage o (ran.sound trust), tt));
      new_calls = cs;
      told_calls = told;
      are_calls = moved cs c;
    }

    pub agrees-step : AgreesWithHand honest fails calls base hand' new
    agrees-step = elim ran.called [
      | inl e ↦
          agrees_with (t.new_calls ++ call ∷ []) (e ∙ (ap (λ (told : Option (List Call)). with_call told call) t.told_calls ∙ calls-more (calls base) t.new_calls call))
          (calls-step cube honest old.workers (turns old) t.new_calls t.are_calls call o claimed.job (λ trust. (claimed.there, claimed.task trust)))
      | inr e ↦ agrees_with t.new_calls (e.1 ∙ t.told_calls) (calls-missed cube honest old.workers (turns old) t.new_calls t.are_calls call o e.0)
    ]

  -- the same turns
  pub agrees-same : (hand : H) (old new : BoardModel) → IsSame old new → AgreesWithHand honest fails calls base hand old → AgreesWithHand honest fails calls base hand new
  agrees-same hand old new same t = agrees-silent hand old new [] (grown-same old new same) tt t

  -- a claim alone
  pub agrees-claim : (hand : H) (old new : BoardModel) (job attempt : ℕ) → IsAdded old (Claims job attempt) new → AgreesWithHand honest fails calls base hand old → AgreesWithHand honest fails calls base hand new
  agrees-claim hand old new job attempt added t = agrees-silent hand old new (Claims job attempt ∷ []) (grown-added old (Claims job attempt) new added) (tt, tt) t

  -- a line that was taken, or some turns of it
  pub agrees-taken : (hand : H) (tables : List LoadedTable) (old : BoardModel) (line : Line) (said : Block) (new : BoardModel) → HasExecuted honest tables old line said new
      → AgreesWithHand honest fails calls base hand old → AgreesWithHand honest fails calls base hand new
  agrees-taken hand tables old line said new (inl c) t =
      agrees-silent hand old new (Takes line.number (command_of served (rows_at tables line.number) line.verb) ∷ [])
      (grown-added old (Takes line.number (command_of served (rows_at tables line.number) line.verb)) new c.added) (tt, tt) t
  agrees-taken hand tables old line said new (inr q) t =
      agrees-silent hand old new (asked_turns line.number q.session ++ QueryEnds line.number q.out ∷ []) q.grown (tt, (tt, (tt, tt))) t

  asked_silent : (line session count : ℕ) → AllByRecursion EndsNoStep (take count (asked_turns line session))
  asked_silent line session zero = tt
  asked_silent line session (suc zero) = (tt, tt)
  asked_silent line session (suc (suc zero)) = (tt, (tt, tt))
  asked_silent line session (suc (suc (suc n))) = (tt, (tt, tt))

  pub agrees-part : (hand : H) (old : BoardModel) (line : Line) (new : BoardModel) → HasExecutedPart old line new → AgreesWithHand honest fails calls base hand old → AgreesWithHand honest fails calls base hand new
  agrees-part hand old line new (inl g) t = agrees-silent hand old new [] g tt t
  agrees-part hand old line new (inr q) t = agrees-silent hand old new (take q.count (asked_turns line.number q.session)) q.grown (asked_silent line.number q.session q.count) t

  -- before the first turn
  agrees_empty : AgreesWithHand honest fails calls base base (empty_board 1)
  agrees_empty = record {
    fails_same = refl;
    follows = λ told e. All-nil (IsEndBy told);
    sound = λ trust. All-nil IsUndamaged;
    new_calls = [];
    told_calls = calls-none (calls base);
    are_calls = calls-start cube honest 1;
  }

  pub agrees-start : (board : BoardModel) → board ≡ empty_board 1 → AgreesWithHand honest fails calls base base board
  agrees-start board b = subst (AgreesWithHand honest fails calls base base) (sym b) agrees_empty

-- ---- the whole run

pub none-all : (P : Event → Type 0) (history : List Event) → history ≡ [] → All P history
none-all P history e = subst (All P) (sym e) (All-nil P)

-- the calls of a board's turns are those of its events over the inputs
pub calls-over : (honest : Type 0) (inputs inputs' : Inputs) → inputs ≡ inputs' → (board : BoardModel) (history : List Event) (calls : List Call) → IsFront inputs board
    → history ≡ map event_of (turns board) → AreCallsOf cube honest board.workers (turns board) calls → AreCallsOf cube honest inputs'.workers (turns_of served inputs' history) calls
calls-over honest inputs inputs' same board history calls front e c =
    subst (λ (i : Inputs). AreCallsOf cube honest i.workers (turns_of served i history) calls) same
    (subst (λ (h : List Event). AreCallsOf cube honest inputs.workers (turns_of served inputs h) calls) (sym e)
    (subst (λ (ts : List (Turn Ask)). AreCallsOf cube honest inputs.workers ts calls) (sym front.named)
    (subst (λ (n : ℕ). AreCallsOf cube honest n (turns board) calls) front.workers c)))

pub calls-none_over : (honest : Type 0) (inputs : Inputs) (history : List Event) → history ≡ [] → AreCallsOf cube honest inputs.workers (turns_of served inputs history) []
calls-none_over honest inputs history e =
    subst (λ (h : List Event). AreCallsOf cube honest inputs.workers (turns_of served inputs h) []) (sym e) (calls-start cube honest inputs.workers)
