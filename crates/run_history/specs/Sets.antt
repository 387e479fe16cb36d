-- Segments, and the ready sets that swaps and drops make.
use Rattle.std.specs.Prelude.{ℕ, Bool, ◌&&◌, ◌==◌, not, nat_lt, nat_le, List, ◌∷◌, ◌++◌, filter, length, sum_by}
use Rattle.std.specs.List.{flat_map}
use Rattle.range_list.specs.Ranges.{Interval}
use Rattle.run_history.specs.Cubes.{CubeSemantics, Rows, Snapshot}

-- a segment: its range, the job that made it, and the snapshots that its rows come from
pub record Segment : Type 0 where
  pub range : Interval
  pub job : ℕ
  pub origin : List Snapshot

-- the ready segments, in rising order of their ranges
abbrev pub ReadySet : Type 0
ReadySet = List Segment

abbrev pub is_same_range : Interval → Interval → Bool
is_same_range r s = (r.start == s.start) && (r.end == s.end)

abbrev pub is_inside : Interval → Interval → Bool
is_inside outer r = nat_le outer.start r.start && nat_le r.end outer.end

abbrev pub is_overlap : Interval → Interval → Bool
is_overlap r s = nat_lt r.start s.end && nat_lt s.start r.end

-- the segments inside a range
abbrev pub inside : Interval → ReadySet → ReadySet
inside range set = filter (λ s. is_inside range s.range) set

-- the set without the segments inside a range
abbrev pub outside : Interval → ReadySet → ReadySet
outside range set = filter (λ s. not (is_inside range s.range)) set

-- the set with a segment in its place by its start
abbrev pub placed : Segment → ReadySet → ReadySet
placed new set =
    filter (λ s. nat_lt s.range.start new.range.start) set ++ new ∷ filter (λ s. not (nat_lt s.range.start new.range.start)) set

-- the next set of a swap: the segments inside the new one's range go, and the new one comes
abbrev pub swapped : Segment → ReadySet → ReadySet
swapped new set = placed new (outside new.range set)

-- the next set of a drop: the segment of exactly this range goes
abbrev pub dropped : Interval → ReadySet → ReadySet
dropped range set = filter (λ s. not (is_same_range range s.range)) set

-- how many snapshots the segments of a set are made of
abbrev pub snapshots_in : ReadySet → ℕ
snapshots_in set = sum_by (λ s. length s.origin) set

-- the joined rows of a set: those of each snapshot, end to end
abbrev pub rows_of : {Query Answer : Type 0} → CubeSemantics Query Answer → ReadySet → Rows
rows_of cube set = flat_map (λ s. flat_map cube.rows s.origin) set
