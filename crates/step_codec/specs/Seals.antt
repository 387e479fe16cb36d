-- What the seal of a segment says of it: a range, how many snapshots it is made of, the products of the steps, and the rows of its cuboids.
use Rattle.std.specs.Prelude.{◌≡◌, ◌≤◌, ◌<◌, ◌^◌, ◌+◌, ℕ, Bool, true, false, ◌==◌, ◌&&◌, nat_le, nat_lt, List, [], ◌∷◌, ◌++◌, Option, length, if◌then◌else◌}
use Rattle.std.specs.Int.{w32, w64, to_be_bytes}
use Rattle.std.specs.List.{AllByRecursion}
use Rattle.byte_frame.specs.Reading.{as_at, bytes_at, if_at, list_at, number_at, then_at}
use Rattle.byte_frame.specs.Spelling.{list_text, rises}
use Rattle.range_list.specs.Ranges.{Interval}
use Rattle.step_fields.specs.Fits.{IsDayRange}
use Rattle.step_fields.specs.Reading.{range_at}
use Rattle.step_fields.specs.Spelling.{range_text}
use Rattle.step_codec.specs.Layouts.{part_limit}
use Rattle.step_codec.specs.declared.seal.CuboidRows.{CuboidRows}
use Rattle.step_codec.specs.declared.seal.DoneStep.{DoneStep}
use Rattle.step_codec.specs.declared.seal.SealBody.{SealBody}

-- ---- bytes

-- the number of a step, and the length and the digest of its product
abbrev pub done_text : DoneStep → List ℕ
done_text d = to_be_bytes w32 d.step ++ (to_be_bytes w64 d.len ++ d.digest)

abbrev pub cuboid_text : CuboidRows → List ℕ
cuboid_text c = to_be_bytes w64 c.mask.0 ++ to_be_bytes w64 c.rows

abbrev pub seal_text : SealBody → List ℕ
seal_text s = range_text s.range ++ (to_be_bytes w32 s.parts ++ (list_text done_text s.done ++ list_text cuboid_text s.cuboids))

-- ---- what fits

abbrev pub FitsDone : DoneStep → Type 0
FitsDone d = (d.step < 2 ^ 32) × ((d.len < 2 ^ 64) × (length d.digest ≡ 32))

abbrev pub FitsCuboid : CuboidRows → Type 0
FitsCuboid c = (c.mask.0 < 2 ^ 64) × (c.rows < 2 ^ 64)

-- the numbers of the steps are n, n + 1 and so on
abbrev pub steps_follow : ℕ → List DoneStep → Bool
steps_follow n [] = true
steps_follow n (d ∷ done) = if d.step == n then steps_follow (n + 1) done else false

abbrev pub mask_before : CuboidRows → CuboidRows → Bool
mask_before a b = nat_lt a.mask.0 b.mask.0

-- the greatest number of items of a list
abbrev pub most_items : ℕ
most_items = 4_294_967_295

-- two days, 1 to 1,000 snapshots, the steps 1, 2 and so on, and masks that rise strictly
pub record FitsSeal (s : SealBody) : Type 0 where
  pub range : IsDayRange s.range
  pub some_parts : 1 ≤ s.parts
  pub few_parts : s.parts ≤ part_limit
  pub few_done : length s.done ≤ most_items
  pub done : AllByRecursion FitsDone s.done
  pub follow : steps_follow 1 s.done ≡ true
  pub few_cuboids : length s.cuboids ≤ most_items
  pub cuboids : AllByRecursion FitsCuboid s.cuboids
  pub rising : rises mask_before s.cuboids ≡ true

-- ---- readers

abbrev pub done_from : ℕ × (ℕ × List ℕ) → DoneStep
done_from p = record { step = p.0; len = p.1.0; digest = p.1.1 }

unfoldable pub done_at : List ℕ → Option (DoneStep × List ℕ)
done_at = as_at done_from (then_at (number_at w32) (λ _. then_at (number_at w64) (λ _. bytes_at 32)))

abbrev pub cuboid_from : ℕ × ℕ → CuboidRows
cuboid_from p = record { mask = record { 0 = p.0 }; rows = p.1 }

unfoldable pub cuboid_at : List ℕ → Option (CuboidRows × List ℕ)
cuboid_at = as_at cuboid_from (then_at (number_at w64) (λ _. number_at w64))

abbrev pub is_part_count : ℕ → Bool
is_part_count n = nat_le 1 n && nat_le n part_limit

abbrev pub seal_from : Interval × (ℕ × (List DoneStep × List CuboidRows)) → SealBody
seal_from p = record { range = p.0; parts = p.1.0; done = p.1.1.0; cuboids = p.1.1.1 }

unfoldable pub seal_at : List ℕ → Option (SealBody × List ℕ)
seal_at =
    as_at seal_from (then_at range_at (λ _. then_at (if_at is_part_count (number_at w32))
    (λ _. then_at (if_at (steps_follow 1) (list_at most_items done_at)) (λ _. if_at (rises mask_before) (list_at most_items cuboid_at)))))
