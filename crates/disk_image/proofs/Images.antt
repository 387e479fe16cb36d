-- What a stop leaves is one of the images, and images over one call more.
use Rattle.std.proofs.Common.{◌≡◌, ◌⊎◌, ◌<◌, ◌≤◌, ◌-◌, ℕ, suc, List, [], ◌∷◌, length, drop, replicate, inl, inr, refl, sym, ap, subst, arith}
use Rattle.std.proofs.lemmas.Bool.{cases_lt}
use Rattle.std.proofs.lemmas.List.{length-replicate}
use Rattle.disk_image.specs.Changes.{Torn, written_over}
use Rattle.disk_image.specs.Crashes.{PassesTime}
use Rattle.disk_image.specs.MemoryDisk.{FileChange, Writes, Cuts, DiskCall, Looked, Synced, Changed, Refused, MayTurnInto, CrashImage, CrashImageSince, calls_until, filled_by, reads_as, stopped}
use Rattle.disk_image.specs.MemoryLaws.{written_is_torn, cut_is_short, unmade_may_be_left}
use Rattle.disk_image.specs.declared.record.Fill.{Fill}
use Rattle.disk_image.specs.declared.record.Fill.TheVariants.{Old, New, Ones}

filled_may_be_left : (fill : Fill) (end : ℕ) (change : FileChange) (image : List ℕ) → MayTurnInto end change image (filled_by fill change image)
filled_may_be_left Old end change image = unmade_may_be_left end change image
filled_may_be_left New end (Writes at bytes) image = written_is_torn end 0 at bytes image
filled_may_be_left New end (Cuts n) image = cut_is_short n image
filled_may_be_left Ones end (Writes at bytes) image =
    subst (λ (n : ℕ). Torn end at n image (written_over 1 at (replicate (length bytes) 1) image)) (length-replicate (length bytes) 1) (written_is_torn end 1 at (replicate (length bytes) 1) image)
filled_may_be_left Ones end (Cuts n) image = cut_is_short n image

-- what a stop leaves is one of the images
pub stopped_is_image : (fill : Fill) (start : List ℕ) (calls : List DiskCall) → CrashImage start calls (stopped fill start calls)
stopped_is_image fill start [] = refl
stopped_is_image fill start (Looked ∷ calls) = stopped_is_image fill start calls
stopped_is_image fill start (Synced ∷ calls) = refl
stopped_is_image fill start (Changed change ∷ calls) = (stopped fill start calls, stopped_is_image fill start calls, filled_may_be_left fill (length (reads_as start calls)) change (stopped fill start calls))
stopped_is_image fill start (Refused change ∷ calls) = (stopped fill start calls, stopped_is_image fill start calls, filled_may_be_left fill (length (reads_as start calls)) change (stopped fill start calls))

-- ---- time

earlier_calls : (call : DiskCall) (calls : List DiskCall) (n : ℕ) → n ≤ length calls → calls_until n (call ∷ calls) ≡ calls_until n calls
earlier_calls call calls n inside =
    let more : suc (length calls) - n ≡ suc (length calls - n) = omega arith in
    ap (λ (k : ℕ). drop k (call ∷ calls)) more

-- a call was recorded
pub time_over : (start : List ℕ) (call : DiskCall) (calls : List DiskCall) → PassesTime (length calls) (length (call ∷ calls)) (CrashImageSince start calls) (CrashImageSince start (call ∷ calls)) (CrashImage start (call ∷ calls))
time_over start call calls = record {
  clock = omega arith;
  remembers = λ t image earlier left. record {
    count = left.count;
    since = left.since;
    so_far = omega (arith, left.so_far);
    left = subst (λ (c : List DiskCall). CrashImage start c image) (sym (earlier_calls call calls left.count left.so_far)) left.left;
  };
  adds = λ t image earlier left. which t image left (cases_lt (length calls) left.count);
}
  where
    which : (t : ℕ) (image : List ℕ) (left : CrashImageSince start (call ∷ calls) t image) → (length calls < left.count) ⊎ (left.count ≤ length calls) → CrashImageSince start calls t image ⊎ CrashImage start (call ∷ calls) image
    which t image left (inr inside) = inl (record { count = left.count; since = left.since; so_far = inside; left = subst (λ (c : List DiskCall). CrashImage start c image) (earlier_calls call calls left.count inside) left.left })
    which t image left (inl last) = let none : suc (length calls) - left.count ≡ 0 = omega arith in inr (subst (λ (k : ℕ). CrashImage start (drop k (call ∷ calls)) image) none left.left)

-- nothing was recorded
pub no_time : (start : List ℕ) (calls : List DiskCall) → PassesTime (length calls) (length calls) (CrashImageSince start calls) (CrashImageSince start calls) (CrashImage start calls)
no_time start calls = record { clock = omega arith; remembers = λ t image earlier left. left; adds = λ t image earlier left. inl left }
