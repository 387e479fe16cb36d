-- Bodies of seals are read exactly.
use Rattle.std.proofs.Common.{◌≡◌, ◌≤◌, ◌<◌, ◌^◌, ◌++◌, ℕ, Bool, true, false, ◌&&◌, List, length, refl, arith}
use Rattle.std.specs.Prelude.{nat_le}
use Rattle.std.specs.Int.{w32, w64, to_be_bytes}
use Rattle.std.specs.List.{AllByRecursion}
use Rattle.std.proofs.lemmas.Bool.Decides.{nat_tests}
use Rattle.byte_frame.specs.Exact.{Exact}
use Rattle.byte_frame.specs.Reading.{if_at, number_at}
use Rattle.byte_frame.specs.Spelling.{list_text, rises}
use Rattle.byte_frame.proofs.Exact.{exact_as, exact_bytes, exact_fit, exact_if, exact_list, exact_number, exact_then, wide32, wide64}
use Rattle.step_fields.specs.Fits.{IsDayRange}
use Rattle.step_fields.proofs.Exact.{exact_range}
use Rattle.step_codec.specs.Layouts.{part_limit}
use Rattle.step_codec.specs.Seals.{FitsCuboid, FitsDone, FitsSeal, cuboid_at, cuboid_from, cuboid_text, done_at, done_from, done_text, is_part_count, mask_before, most_items, seal_at, seal_from, seal_text, steps_follow}
use Rattle.step_codec.specs.declared.seal.CuboidRows.{CuboidRows}
use Rattle.step_codec.specs.declared.seal.DoneStep.{DoneStep}
use Rattle.step_codec.specs.declared.seal.SealBody.{SealBody}

exact_done : Exact done_text FitsDone done_at
unfolding done_at
exact_done = exact_as done_from (λ (d : DoneStep). (d.step, (d.len, d.digest))) _ _ FitsDone _ (λ x h. (refl, h)) (λ d h. (refl, h))
    (exact_then _ _ _ (λ _ (p : ℕ × List ℕ). to_be_bytes w64 p.0 ++ p.1) _ _ (exact_number w32 (2 ^ 32) wide32)
    (λ n h. exact_then _ _ _ (λ _ (digest : List ℕ). digest) _ _ (exact_number w64 (2 ^ 64) wide64) (λ m g. exact_bytes 32)))

exact_cuboid : Exact cuboid_text FitsCuboid cuboid_at
unfolding cuboid_at
exact_cuboid = exact_as cuboid_from (λ (c : CuboidRows). (c.mask.0, c.rows)) _ _ FitsCuboid _ (λ x h. (refl, h)) (λ c h. (refl, h))
    (exact_then _ _ _ (λ _ rows. to_be_bytes w64 rows) _ _ (exact_number w64 (2 ^ 64) wide64) (λ n h. exact_number w64 (2 ^ 64) wide64))

both : (a b : Bool) → (a && b) ≡ true → (a ≡ true) × (b ≡ true)
both true b h = (refl, h)
both false b h = absurd cc

at_most : (a b : ℕ) → nat_le a b ≡ true → a ≤ b
at_most a b h = grind (arith, nat_tests)

at_most_again : (a b : ℕ) → a ≤ b → nat_le a b ≡ true
at_most_again a b h = grind (arith, nat_tests)

abbrev IsParts : ℕ → Type 0
IsParts n = (1 ≤ n) × (n ≤ part_limit)

exact_parts : Exact (to_be_bytes w32) IsParts (if_at is_part_count (number_at w32))
exact_parts = exact_fit (to_be_bytes w32) (λ (n : ℕ). (n < 2 ^ 32) × (is_part_count n ≡ true)) IsParts (if_at is_part_count (number_at w32))
    (λ n h. let t = both (nat_le 1 n) (nat_le n part_limit) h.1 in (at_most 1 n t.0, at_most n part_limit t.1))
    (λ n h. (omega (arith, h.1), rw (at_most_again 1 n h.0, at_most_again n part_limit h.1) refl))
    (exact_if is_part_count _ (λ (n : ℕ). n < 2 ^ 32) _ (exact_number w32 (2 ^ 32) wide32))

-- the parts of a seal as they are nested
abbrev Raw : SealBody → Type 0
Raw s =
    IsDayRange s.range × (IsParts s.parts × ((((length s.done ≤ most_items) × AllByRecursion FitsDone s.done) × (steps_follow 1 s.done ≡ true))
    × (((length s.cuboids ≤ most_items) × AllByRecursion FitsCuboid s.cuboids) × (rises mask_before s.cuboids ≡ true))))

exact_raw : Exact seal_text Raw seal_at
unfolding seal_at
exact_raw = exact_as seal_from (λ (s : SealBody). (s.range, (s.parts, (s.done, s.cuboids)))) _ _ Raw _ (λ x h. (refl, h)) (λ s h. (refl, h))
    (exact_then _ _ _ (λ _ (p : ℕ × (List DoneStep × List CuboidRows)). to_be_bytes w32 p.0 ++ (list_text done_text p.1.0 ++ list_text cuboid_text p.1.1)) _ _ exact_range
    (λ r h. exact_then _ _ _ (λ _ (p : List DoneStep × List CuboidRows). list_text done_text p.0 ++ list_text cuboid_text p.1) _ _ exact_parts
    (λ n g. exact_then _ _ _ (λ _ (cuboids : List CuboidRows). list_text cuboid_text cuboids) _ _
    (exact_if (steps_follow 1) _ _ _ (exact_list most_items done_text FitsDone done_at (omega arith) exact_done))
    (λ d k. exact_if (rises mask_before) _ _ _ (exact_list most_items cuboid_text FitsCuboid cuboid_at (omega arith) exact_cuboid)))))

pub exact_seal : Exact seal_text FitsSeal seal_at
exact_seal = exact_fit seal_text Raw FitsSeal seal_at
    (λ s h. record {
      range = h.0;
      some_parts = h.1.0.0;
      few_parts = h.1.0.1;
      few_done = h.1.1.0.0.0;
      done = h.1.1.0.0.1;
      follow = h.1.1.0.1;
      few_cuboids = h.1.1.1.0.0;
      cuboids = h.1.1.1.0.1;
      rising = h.1.1.1.1;
    })
    (λ s h. (h.range, ((h.some_parts, h.few_parts), (((h.few_done, h.done), h.follow), ((h.few_cuboids, h.cuboids), h.rising)))))
    exact_raw
