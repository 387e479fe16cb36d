-- What one hand did is what the list of it did; and hands that were not called.
use Rattle.std.proofs.Common.{◌≡◌, Option, Some, None, List, [], ◌∷◌, ◌++◌, All, length, refl, sym, ap, ◌∙◌, subst, arith, append-nil, length-append, unwrap_or}
use Rattle.std.specs.Prelude.{IsSome, option_map}
use Rattle.std.proofs.lemmas.List.Elements.{All-head}
use Rattle.outside.specs.Hands.{Call, Fail}
use Rattle.outside.specs.Rises.{AllTell, AllTellThat, Gained, TellSame, entries_of}
use Rattle.outside.proofs.Rises.{Gained-none, Gained-one, TellSame-none, TellSame-set}
use Rattle.run_history.specs.declared.event.Event.{Event}
use Rattle.run_inputs.specs.declared.inputs.FixedInputs.{FixedInputs}
use Rattle.run_transcript.specs.Runs.{turns_of}
use Rattle.coordinator.specs.Served.{inputs_of, served}
use Rattle.step_outcomes.specs.Calls.{AreCallsOf}
use Rattle.step_outcomes.specs.Faults.{IsEndBy, StandsAmong}
use Rattle.coordinator.proofs.HandAgreementFacts.{calls-none_over}
use Rattle.job_board.specs.Ledger.{cube}
use Rattle.cubes_top.specs.Ties.{HaveCalled}

-- ---- one hand

front_none : {H : Type 0} (front hands : List H) (hand : H) → hands ≡ front ++ hand ∷ [] → length hands ≡ 1 → front ≡ []
front_none [] hands hand e one = refl
front_none (first ∷ front) hands hand e one = absurd (omega (arith, one, ap length e, length-append front (hand ∷ [])))

-- the last of one hand is the one hand, and so is the one that is put back
pub one-hand : {H : Type 0} (front hands : List H) (hand : H) → hands ≡ front ++ hand ∷ [] → length hands ≡ 1 → hands ≡ hand ∷ []
one-hand {H = H} front hands hand e one = e ∙ ap (λ (hs : List H). hs ++ hand ∷ []) (front_none front hands hand e one)

pub put-back : {H : Type 0} (front hands hands' : List H) (hand hand' : H) → hands ≡ front ++ hand ∷ [] → length hands ≡ 1 → hands' ≡ front ++ hand' ∷ [] → hands' ≡ hand' ∷ []
put-back {H = H} front hands hands' hand hand' e one e' = e' ∙ ap (λ (hs : List H). hs ++ hand' ∷ []) (front_none front hands hand e one)

module _ {H : Type 0} (fails : H → Option (List Fail)) (hands : List H) (hand : H) (one : hands ≡ hand ∷ []) (history : List Event) where
  pub fails-one : ((told : List Fail) → fails hand ≡ Some told → All (IsEndBy told) history) → (told : List Fail) → AllTellThat fails told hands → All (IsEndBy told) history
  fails-one h told all = h told (All-head (λ hand. fails hand ≡ Some told) hand [] (subst (AllTellThat fails told) one all))

  pub stand-one : ((told : List Fail) → fails hand ≡ Some told → All (StandsAmong told) history) → AllTell fails hands → All (StandsAmong (entries_of fails hands)) history
  stand-one h all = by_told (fails hand) refl
    where
      tells : IsSome (fails hand)
      tells = All-head (λ hand. IsSome (fails hand)) hand [] (subst (AllTell fails) one all)

      by_told : (told : Option (List Fail)) → fails hand ≡ told → All (StandsAmong (entries_of fails hands)) history
      by_told None e = absurd (cc (tells, e))
      by_told (Some told) e =
          let list : entries_of fails hands ≡ told = ap (entries_of fails) one ∙ (append-nil (unwrap_or (fails hand) []) ∙ ap (λ (o : Option (List Fail)). unwrap_or o []) e) in
          subst (λ (fs : List Fail). All (StandsAmong fs) history) (sym list) (h told e)

pub same-one : {H F : Type 0} (told : H → Option F) (old new : H) (hands hands' : List H) → hands ≡ old ∷ [] → hands' ≡ new ∷ [] → told new ≡ told old → TellSame told hands hands'
same-one {H = H} told old new hands hands' e e' same =
    subst (λ (hs : List H). TellSame told hs hands') (sym e)
    (subst (λ (hs : List H). TellSame told (old ∷ []) hs) (sym e') (TellSame-set told (old ∷ []) 0 new old (omega arith) same))

pub called-one : {H : Type 0} (calls : H → Option (List Call)) (honest : Type 0) (given : FixedInputs) (history : List Event) (old new : H) (hands hands' : List H) → hands ≡ old ∷ [] → hands' ≡ new ∷ []
    → (entries : List Call) → calls new ≡ option_map (λ before. before ++ entries) (calls old) → AreCallsOf cube honest 1 (turns_of served (inputs_of 1 given) history) entries
    → HaveCalled calls honest given history hands hands'
called-one {H = H} calls honest given history old new hands hands' e e' entries is of_ends = record {
  entries = entries;
  gained =
      subst (λ (hs : List H). Gained calls hs hands' entries) (sym e)
      (subst (λ (hs : List H). Gained calls (old ∷ []) hs entries) (sym e') (Gained-one calls old new entries is));
  of_ends = of_ends;
}

-- ---- hands that were not called

pub same-none : {H F : Type 0} (told : H → Option F) (hands hands' : List H) → hands' ≡ hands → TellSame told hands hands'
same-none {H = H} told hands hands' same = subst (λ (hs : List H). TellSame told hands hs) (sym same) (TellSame-none told hands)

pub called-none : {H : Type 0} (calls : H → Option (List Call)) (honest : Type 0) (given : FixedInputs) (history : List Event) (hands hands' : List H) → hands' ≡ hands → history ≡ []
    → HaveCalled calls honest given history hands hands'
called-none {H = H} calls honest given history hands hands' same none = record {
  entries = [];
  gained = subst (λ (hs : List H). Gained calls hands hs []) (sym same) (Gained-none calls hands);
  of_ends = calls-none_over honest (inputs_of 1 given) history none;
}
