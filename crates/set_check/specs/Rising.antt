-- Segments on their way into a ready set.
use Rattle.std.specs.Prelude.{◌≤◌, ℕ, List, All}
use Rattle.segment_store.specs.ReadySets.{IsReady}
use Rattle.segment_store.specs.declared.parts.SegmentParts.{SegmentParts}

-- segments of a ready set, all of which end by a day
pub record EndBy (segments : List SegmentParts) (day : ℕ) : Type 0 where
  pub ready : IsReady segments
  pub ended : All (λ s. s.range.end ≤ day) segments
