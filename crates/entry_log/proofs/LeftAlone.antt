-- Calls that change nothing, one after another.
use Rattle.std.proofs.Common.{◌≡◌, ◌≤◌, ◌∙◌, inl, inr, ℕ, List, Option, Some, Result, Err, ap, subst, sym, arith}
use Rattle.std.specs.Prelude.{IsErrAnd}
use Rattle.disk_image.specs.Crashes.{CrashCondition, IsDurable, NoNewImage, PassesTime}
use Rattle.entry_log.specs.Kept.{IsEarlierOr, IsStill}
use Rattle.disk_image.proofs.CrashConditions.{of_call_more, of_both, of_no_call, of_weaker}
use Rattle.entry_log.specs.Looks.{LeftAlone}

module _ {D : Type 0} (content : D → Option (List ℕ)) (crash_image : D → List ℕ → Type 0) (clock : D → ℕ) (image_since : D → ℕ → List ℕ → Type 0) (faults : D → ℕ) where
  -- one call
  pub one_look : (old new : D) → ((left : List ℕ) → image_since old (clock old) left → crash_image old left) → content new ≡ content old → NoNewImage (crash_image old) (crash_image new)
      → PassesTime (clock old) (clock new) (image_since old) (image_since new) (crash_image new) → faults old ≤ faults new → LeftAlone content crash_image clock image_since faults old new
  one_look old new now same images time no_fewer = record {
    same = same;
    images = images;
    crash = of_call_more clock image_since old old new (crash_image old) (crash_image new) (of_no_call clock image_since old (crash_image old) now) time images;
    no_fewer = no_fewer;
  }

  -- two in turn
  pub both_looks : (old mid new : D) → LeftAlone content crash_image clock image_since faults old mid → LeftAlone content crash_image clock image_since faults mid new → LeftAlone content crash_image clock image_since faults old new
  both_looks old mid new first second = record {
    same = second.same ∙ first.same;
    images = λ left is. first.images left (second.images left is);
    crash = of_both clock image_since old mid new (crash_image old) first.crash (of_weaker clock image_since mid new (crash_image mid) (crash_image old) first.images second.crash);
    no_fewer = omega (arith, first.no_fewer, second.no_fewer);
  }

  -- a log was read, and its gate closed
  pub opened : (old mid new : D) (file bytes : List ℕ) → LeftAlone content crash_image clock image_since faults old mid → content old ≡ Some file → bytes ≡ file → IsDurable file (crash_image mid)
      → (content mid ≡ Some bytes → IsDurable bytes (crash_image mid) → CrashCondition clock image_since mid new (IsStill bytes)) → CrashCondition clock image_since old new (IsEarlierOr (crash_image old) file)
  opened old mid new file bytes looked told is durable closes =
      let there : content mid ≡ Some bytes = looked.same ∙ told ∙ ap (λ (l : List ℕ). Some l) (sym is) in
      let only : IsDurable bytes (crash_image mid) = subst (λ (l : List ℕ). IsDurable l (crash_image mid)) (sym is) durable in
      of_both clock image_since old mid new (IsEarlierOr (crash_image old) file)
      (of_weaker clock image_since old mid (crash_image old) (IsEarlierOr (crash_image old) file) (λ left image. inl image) looked.crash)
      (of_weaker clock image_since mid new (IsStill bytes) (IsEarlierOr (crash_image old) file) (λ left still. inr (subst (λ (l : List ℕ). IsStill l left) is still)) (closes there only))

-- what holds of an error holds of this one
pub err_has : {T E : Type 0} (r : Result T E) (e : E) (P : E → Type 0) → r ≡ Err e → IsErrAnd r P → P e
err_has r e P is has = subst (λ (x : Result _ _). IsErrAnd x P) is has
