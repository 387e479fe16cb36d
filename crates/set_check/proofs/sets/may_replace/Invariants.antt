use Rattle.std.proofs.Common.{◌≡◌, ◌<◌, ℕ, true, get_or}
use Rattle.run_history.specs.Sets.{is_inside, is_overlap}
use Rattle.segment_store.specs.declared.parts.SegmentParts.{SegmentParts}
use Rattle.set_check.proofs.sets.may_replace.Given as goal

abbrev pub invariant-loop-i : goal.invariant-loop-i
invariant-loop-i l = (k : ℕ) (d : SegmentParts) → k < l.i → is_overlap (get_or l.set.segments k d).range l.range ≡ true → is_inside l.range (get_or l.set.segments k d).range ≡ true
