-- What lists of hands did, from turn to turn.
use Rattle.std.proofs.Common.{◌≡◌, ℕ, ◌≤◌, Option, List, [], ◌∷◌, ◌++◌, All, map, refl, sym, ap, ◌∙◌, subst, arith, append-nil}
use Rattle.std.proofs.lemmas.List.{map-append}
use Rattle.std.proofs.lemmas.List.Elements.{All-push}
use Rattle.fixed_cube.specs.Cube.{fixed}
use Rattle.job_board.specs.BoardModel.{BoardModel, IsAdded, turns}
use Rattle.outside.specs.Hands.{Call, Fail, call_of}
use Rattle.outside.specs.Rises.{AllTellThat, Gained, Risen, TellSame}
use Rattle.outside.proofs.Rises.{AllTellThat-then, Gained-then, Risen-fewer, Risen-then, TellSame-then}
use Rattle.plain_answer.specs.declared.ask.Ask.{Ask}
use Rattle.run_history.specs.Commands.{Turn, event_of}
use Rattle.run_history.specs.Commands.Turn.{Takes, Claims, StepEnds, QueryTakes, QueryEnds}
use Rattle.run_history.specs.declared.event.Outcome.{Outcome}
use Rattle.run_history.specs.declared.event.Outcome.TheVariants as outcome
use Rattle.step_outcomes.specs.Calls.{AreCallsOf, IsTaskOf}
use Rattle.step_outcomes.specs.Ends.{EndsNoStep, IsUndamaged, fault_ends, is_end, is_fault, is_no_memory, run_ends}
use Rattle.step_outcomes.specs.Faults.{IsEndBy}
use Rattle.step_outcomes.proofs.CallFacts.{calls-silent}
use Rattle.board_pieces.specs.HandLists.{AgreesWithHands, HaveCalled, IsCounted}
use Rattle.board_pieces.proofs.EndedCalls.{calls-ended, calls-ended_missed}
use Rattle.board_pieces.proofs.Members.{count-append}

events_more : (old : BoardModel) (turn : Turn Ask) (new : BoardModel) → IsAdded old turn new → map event_of (turns new) ≡ map event_of (turns old) ++ event_of turn ∷ []
events_more old turn new a = ap (map event_of) a.turns ∙ map-append event_of (turns old) (turn ∷ [])

-- turns that end no step say nothing of a hand
pub silent-follows : (told : List Fail) (turn : Turn Ask) → EndsNoStep turn → IsEndBy told (event_of turn)
silent-follows told (Takes line command) h = tt
silent-follows told (Claims job attempt) h = tt
silent-follows told (StepEnds job attempt o) h = absurd h
silent-follows told (QueryTakes line) h = tt
silent-follows told (QueryEnds line out) h = tt

pub silent-sound : (turn : Turn Ask) → EndsNoStep turn → IsUndamaged (event_of turn)
silent-sound (Takes line command) h = refl
silent-sound (Claims job attempt) h = refl
silent-sound (StepEnds job attempt o) h = absurd h
silent-sound (QueryTakes line) h = refl
silent-sound (QueryEnds line out) h = refl

silent_runs : (turn : Turn Ask) → EndsNoStep turn → run_ends (event_of turn ∷ []) ≤ 0
silent_runs (Takes line command) h = omega arith
silent_runs (Claims job attempt) h = omega arith
silent_runs (StepEnds job attempt o) h = absurd h
silent_runs (QueryTakes line) h = omega arith
silent_runs (QueryEnds line out) h = omega arith

silent_faults : (turn : Turn Ask) → EndsNoStep turn → fault_ends (event_of turn ∷ []) ≤ 0
silent_faults (Takes line command) h = omega arith
silent_faults (Claims job attempt) h = omega arith
silent_faults (StepEnds job attempt o) h = absurd h
silent_faults (QueryTakes line) h = omega arith
silent_faults (QueryEnds line out) h = omega arith

module _ {H : Type 0} (base hands hands' : List H) where
  -- ---- counts

  module _ (runs faults : H → ℕ) (old new : BoardModel) where
    pub counted-added : (turn : Turn Ask) (n m : ℕ) → IsAdded old turn new → run_ends (event_of turn ∷ []) ≤ n → fault_ends (event_of turn ∷ []) ≤ m → Risen runs hands hands' n
        → Risen faults hands hands' m → IsCounted runs faults base hands old → IsCounted runs faults base hands' new
    counted-added turn n m a few_runs few_faults ran failed c =
        let events = events_more old turn new a in
        record {
          ran = Risen-fewer runs base hands' _ _
              (omega (arith, ap run_ends events, count-append (is_end is_no_memory) (map event_of (turns old)) (event_of turn ∷ []), few_runs))
              (Risen-then runs base hands hands' _ n c.ran ran);
          failed = Risen-fewer faults base hands' _ _
              (omega (arith, ap fault_ends events, count-append (is_end is_fault) (map event_of (turns old)) (event_of turn ∷ []), few_faults))
              (Risen-then faults base hands hands' _ m c.failed failed);
        }

    pub counted-silent : (turn : Turn Ask) → EndsNoStep turn → IsAdded old turn new → Risen runs hands hands' 0 → Risen faults hands hands' 0 → IsCounted runs faults base hands old
        → IsCounted runs faults base hands' new
    counted-silent turn silent a ran failed c = counted-added turn 0 0 a (silent_runs turn silent) (silent_faults turn silent) ran failed c

    pub counted-kept : turns new ≡ turns old → Risen runs hands hands' 0 → Risen faults hands hands' 0 → IsCounted runs faults base hands old → IsCounted runs faults base hands' new
    counted-kept same ran failed c = record {
      ran = Risen-fewer runs base hands' _ _ (omega (arith, ap (λ (ts : List (Turn Ask)). run_ends (map event_of ts)) same)) (Risen-then runs base hands hands' _ 0 c.ran ran);
      failed =
          Risen-fewer faults base hands' _ _ (omega (arith, ap (λ (ts : List (Turn Ask)). fault_ends (map event_of ts)) same)) (Risen-then faults base hands hands' _ 0 c.failed failed);
    }

  -- ---- what is told of faults

  module _ (honest : Type 0) (fails : H → Option (List Fail)) (old new : BoardModel) where
    pub agrees-added : (turn : Turn Ask) → IsAdded old turn new → TellSame fails hands hands' → ((told : List Fail) → AllTellThat fails told hands → IsEndBy told (event_of turn))
        → (honest → IsUndamaged (event_of turn)) → AgreesWithHands honest fails base hands old → AgreesWithHands honest fails base hands' new
    agrees-added turn a same follows sound t =
        let back = sym (events_more old turn new a) in
        record {
          fails_same = TellSame-then fails base hands hands' t.fails_same same;
          follows = λ told all. subst (All (IsEndBy told)) back
              (All-push (IsEndBy told) (map event_of (turns old)) (event_of turn) (t.follows told all) (follows told (AllTellThat-then fails told base hands t.fails_same all)));
          sound = λ trust. subst (All IsUndamaged) back (All-push IsUndamaged (map event_of (turns old)) (event_of turn) (t.sound trust) (sound trust));
        }

    pub agrees-silent : (turn : Turn Ask) → EndsNoStep turn → IsAdded old turn new → TellSame fails hands hands' → AgreesWithHands honest fails base hands old → AgreesWithHands honest fails base hands' new
    agrees-silent turn silent a same t = agrees-added turn a same (λ told all. silent-follows told turn silent) (λ trust. silent-sound turn silent) t

    pub agrees-kept : turns new ≡ turns old → TellSame fails hands hands' → AgreesWithHands honest fails base hands old → AgreesWithHands honest fails base hands' new
    agrees-kept is same t = record {
      fails_same = TellSame-then fails base hands hands' t.fails_same same;
      follows = λ told all. subst (λ (ts : List (Turn Ask)). All (IsEndBy told) (map event_of ts)) (sym is) (t.follows told all);
      sound = λ trust. subst (λ (ts : List (Turn Ask)). All IsUndamaged (map event_of ts)) (sym is) (t.sound trust);
    }

  -- ---- calls

  module _ (honest : Type 0) (calls : H → Option (List Call)) (old new : BoardModel) where
    moved : (later : List (Turn Ask)) → turns new ≡ turns old ++ later → new.workers ≡ old.workers → (new_calls : List Call) → AreCallsOf fixed honest old.workers (turns old ++ later) new_calls
        → AreCallsOf fixed honest new.workers (turns new) new_calls
    moved later is workers new_calls c =
        subst (λ (n : ℕ). AreCallsOf fixed honest n (turns new) new_calls) (sym workers)
        (subst (λ (ts : List (Turn Ask)). AreCallsOf fixed honest old.workers ts new_calls) (sym is) c)

    -- no call more
    called_with : (later : List (Turn Ask)) → turns new ≡ turns old ++ later → new.workers ≡ old.workers → Gained calls hands hands' [] → (t : HaveCalled honest calls base hands old)
        → AreCallsOf fixed honest old.workers (turns old ++ later) t.new_calls → HaveCalled honest calls base hands' new
    called_with later is workers none t c = record {
      new_calls = t.new_calls;
      gained = subst (Gained calls base hands') (append-nil t.new_calls) (Gained-then calls base hands hands' t.new_calls [] t.gained none);
      are_calls = moved later is workers t.new_calls c;
    }

    pub called-silent : (turn : Turn Ask) → EndsNoStep turn → IsAdded old turn new → Gained calls hands hands' [] → HaveCalled honest calls base hands old → HaveCalled honest calls base hands' new
    called-silent turn silent a none t =
        called_with (turn ∷ []) a.turns a.workers none t (calls-silent fixed honest old.workers (turns old) (turn ∷ []) t.new_calls (silent, tt) t.are_calls)

    pub called-kept : turns new ≡ turns old → new.workers ≡ old.workers → Gained calls hands hands' [] → HaveCalled honest calls base hands old → HaveCalled honest calls base hands' new
    called-kept is workers none t =
        called_with [] (is ∙ sym (append-nil (turns old))) workers none t
        (subst (λ (ts : List (Turn Ask)). AreCallsOf fixed honest old.workers ts t.new_calls) (sym (append-nil (turns old))) t.are_calls)

    -- an end without a call, for want of memory
    pub called-missed : (job attempt : ℕ) (o : Outcome) → IsAdded old (StepEnds job attempt o) new → o ≡ outcome.Memory → Gained calls hands hands' [] → HaveCalled honest calls base hands old
        → HaveCalled honest calls base hands' new
    called-missed job attempt o a memory none t =
        called_with (StepEnds job attempt o ∷ []) a.turns a.workers none t
        (calls-ended_missed fixed honest old.workers (turns old) t.new_calls t.are_calls (call_of job attempt []) o memory)

    -- an end with its call
    pub called-ended : (call : Call) (o : Outcome) → IsAdded old (StepEnds call.job call.attempt o) new → (honest → IsTaskOf fixed old.workers (turns old) call) → Gained calls hands hands' (call ∷ [])
        → HaveCalled honest calls base hands old → HaveCalled honest calls base hands' new
    called-ended call o a task one t = record {
      new_calls = t.new_calls ++ call ∷ [];
      gained = Gained-then calls base hands hands' t.new_calls (call ∷ []) t.gained one;
      are_calls =
          moved (StepEnds call.job call.attempt o ∷ []) a.turns a.workers (t.new_calls ++ call ∷ [])
          (calls-ended fixed honest old.workers (turns old) t.new_calls t.are_calls call o task);
    }
