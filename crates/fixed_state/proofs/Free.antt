-- What the swap of a BUILD needs: no ready segment overlaps the range of its job.
use Rattle.std.proofs.Common.{◌≡◌, ℕ, zero, suc, true, false, Some, [], ◌∷◌, sym, ◌∙◌, subst, arith}
use Rattle.std.proofs.lemmas.Bool.{and_from, lt-ltb}
use Rattle.range_list.specs.Ranges.{Interval, IsFree, Overlaps}
use Rattle.run_history.specs.Cubes.{CubeSemantics}
use Rattle.run_history.specs.Invariants.{IsSound, ranges_of}
use Rattle.run_history.specs.Sets.{ReadySet, Segment, is_overlap}
use Rattle.run_history.specs.World.{Submitted, World, is_live, job_of}
use Rattle.job_machine.specs.declared.state.JobKind.{JobKind}
use Rattle.job_machine.specs.declared.state.JobKind.TheVariants.{Build}
use Rattle.run_history.specs.Invariants.{IsInPlace}
use Rattle.run_history.proofs.Lists.{Every, any_false}

overlap_told : (x r : Interval) → Overlaps x r → is_overlap x r ≡ true
overlap_told x r h = and_from _ _ (lt-ltb x.start r.end (omega (arith, h.1.0.0, h.1.1.1))) (lt-ltb r.start x.end (omega (arith, h.1.1.0, h.1.0.1)))

none_overlaps : (set : ReadySet) (r : Interval) → Every (λ x. is_overlap x.range r ≡ false) set → IsFree (ranges_of set) r
none_overlaps [] r h k d lt = absurd (omega arith)
none_overlaps (x ∷ set) r h zero d lt = λ o. clash (sym (overlap_told x.range r o) ∙ h.0)
  where
    clash : true ≡ false → ⊥
    clash e = cc
none_overlaps (x ∷ set) r h (suc k) d lt = none_overlaps set r h.1 k d (omega arith)

-- no ready segment overlaps the range of a live BUILD
pub free_for : {Q Answer : Type 0} (cube : CubeSemantics Q Answer) (w : World Q) (sound : IsSound cube w) (job : ℕ) (s : Submitted) → job_of w job ≡ Some s → is_live s.job.state ≡ true → s.job.kind ≡ Build → IsFree (ranges_of w.ready) s.range
free_for cube w sound job s there live build =
    let built = subst (λ (kind : JobKind). IsInPlace cube kind s.range w.ready) build (sound.in_place job s there live) in
    none_overlaps w.ready s.range (any_false (λ (x : Segment). is_overlap x.range s.range) w.ready built)
