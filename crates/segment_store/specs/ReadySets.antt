-- Ready sets, and what a swap makes of one.
use Rattle.std.specs.Prelude.{◌≡◌, ◌≤◌, ◌&&◌, ℕ, Bool, true, not, nat_lt, List, ◌∷◌, ◌++◌, All, filter, length, map, refl}
use Rattle.std.specs.Coded.{Coded, code_by, coded×, coded_ℕ, coded_list}
use Rattle.range_list.specs.Ranges.{Interval, IsApart}
use Rattle.run_history.specs.Cubes.{Snapshot}
use Rattle.run_history.specs.Sets.{Segment, is_inside, is_overlap}
use Rattle.run_history.specs.Verdicts.{most_segments}
use Rattle.segment_store.specs.Sources.{Source}
use Rattle.segment_store.specs.contracts.parts.SegmentParts as parts_contract
use Rattle.segment_store.specs.declared.parts.SegmentParts.{SegmentParts}
use Rattle.segment_store.specs.declared.staying.Side.{Side}
use Rattle.segment_store.specs.declared.staying.Side.TheVariants.{Before, Behind}

-- what contracts see of a ready set
pub record Ready : Type 0 where
  pub version : ℕ
  pub segments : List SegmentParts

abbrev pub ready_code : Coded Ready
ready_code = code_by (ℕ × List SegmentParts) (coded× coded_ℕ (coded_list parts_contract.the_row.coded)) (λ (r : Ready). (r.version, r.segments)) (λ p. record { version = p.0; segments = p.1 }) (λ _. refl)

abbrev pub ranges_of : List SegmentParts → List Interval
ranges_of segments = map (λ s. s.range) segments

-- segments of a ready set: not too many, and their ranges rise and are apart
pub record IsReady (segments : List SegmentParts) : Type 0 where
  pub few : length segments ≤ most_segments
  pub apart : IsApart (ranges_of segments)

-- ---- swaps

-- a segment stays in a swap where it lies not inside the new range, and then before it or behind it
abbrev pub stays : Side → Interval → SegmentParts → Bool
stays Before range s = not (is_inside range s.range) && nat_lt s.range.start range.start
stays Behind range s = not (is_inside range s.range) && not (nat_lt s.range.start range.start)

-- the segments inside the new one's range go, and it comes
abbrev pub swapped_in : SegmentParts → List SegmentParts → List SegmentParts
swapped_in new segments = filter (stays Before new.range) segments ++ new ∷ filter (stays Behind new.range) segments

-- each segment that has a day in common with the range lies inside it
abbrev pub AreReplaced : Interval → List SegmentParts → Type 0
AreReplaced range segments = All (λ s. is_overlap s.range range ≡ true → is_inside range s.range ≡ true) segments

-- ---- in a history

abbrev pub snapshot_of : Source → Snapshot
snapshot_of source = record { tables = source.tables; range = source.range }

-- what a history sees of a segment
abbrev pub segment_of : SegmentParts → Segment
segment_of s = record { range = s.range; job = s.job; origin = map snapshot_of s.origin }
