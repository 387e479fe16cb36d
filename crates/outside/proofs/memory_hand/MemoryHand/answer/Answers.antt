use Rattle.std.proofs.Common.{◌≡◌, ◌∙◌, List, ℕ, Result, Ok, Err, Option, Some, None, Vec, sym, ap, inl, inr, map}
use Rattle.std.specs.Prelude.{option_map}
use Rattle.std.specs.declared.alloc.Global.{Global}
use Rattle.outside.proofs.Fails.{fault_for-fates}
use Rattle.outside.specs.Fates.{fail_of, fate_for, fault_of}
use Rattle.outside.specs.Hands.{AnswersFails}
use Rattle.outside.specs.MemoryHand.{HandState, MeetsFate}
use Rattle.outside.specs.declared.fate.Fate.{Fate}
use Rattle.outside.specs.declared.fate.Fated.{Fated}
use Rattle.outside.specs.declared.hand.HandFault.{HandFault}
use Rattle.outside.proofs.memory_hand.MemoryHand.answer.Goals as goal

-- an answer that meets the first fate is the first fault
meets : (job attempt : ℕ) (fates : List Fated) (fate : Option Fate) (product : List ℕ) (answer : Result (Vec ℕ Global) HandFault)
    → fate ≡ fate_for job attempt fates → MeetsFate fate product answer → AnswersFails (Some (map fail_of fates)) job attempt answer
meets job attempt fates None product (Ok bytes) is h = fault_for-fates job attempt fates ∙ ap (option_map fault_of) (sym is)
meets job attempt fates (Some fate) product (Ok bytes) is h = fault_for-fates job attempt fates ∙ ap (option_map fault_of) (sym is ∙ h.0)
meets job attempt fates None product (Err fault) is h = inl h
meets job attempt fates (Some fate) product (Err fault) is (inl e) = inl e
meets job attempt fates (Some fate) product (Err fault) is (inr e) = inr (fault_for-fates job attempt fates ∙ (ap (option_map fault_of) (sym is) ∙ ap Some (sym e)))

pub returns-clause-fated : goal.returns-clause-fated
returns-clause-fated g c =
    let held : c.self.inside.fates.items ≡ c.args.self.now.fates = cc (ap (λ (s : HandState). s.fates) c.self.view_is) in
    let first = c.first_fate-fate.ensures ∙ ap (fate_for c.args.job c.args.attempt) (c.as_slice.ensures.value ∙ held) in
    λ _. meets c.args.job c.args.attempt c.args.self.now.fates c.first_fate-fate.result c.in-Ok.product.items c.meet.result first c.meet.ensures.answer
