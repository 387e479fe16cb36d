-- What is read is a crash image, and the images of now are among those since an earlier time.
use Rattle.std.specs.Prelude.{◌≡◌, ◌<◌, ◌≤◌, ◌-◌, ◌+◌, ◌++◌, ℕ, List, [], ◌∷◌, length, take, drop, replicate, max, Some, refl}
use Rattle.std.proofs.Common.{arith, ⊎_elim, sym, ◌∙◌, ap, subst, get_or, length-append, length-take, length-drop}
use Rattle.std.proofs.lemmas.List.{length-replicate, get_or_append_left, get_or-append_right, get_or-take, get_or-drop}
use Rattle.disk_image.specs.Changes.{written_over, Torn, CutShort}
use Rattle.disk_image.specs.MemoryDisk.{FileChange, Writes, Cuts, DiskCall, Looked, Synced, Changed, Refused, MayTurnInto, CrashImage, CrashImageSince, changed, reads_as, calls_until}

-- ---- a change that was made whole, and one that was not made

length-written_over : (gap at : ℕ) (bytes file : List ℕ) → length (written_over gap at bytes file) ≡ max (length file) (at + length bytes)
length-written_over gap at bytes file =
    let whole : length (written_over gap at bytes file) ≡ length (take at file ++ replicate (at - length file) gap ++ bytes) + length (drop (at + length bytes) file) = length-append (take at file ++ replicate (at - length file) gap ++ bytes) (drop (at + length bytes) file) in
    let middle : length (take at file ++ replicate (at - length file) gap ++ bytes) ≡ length (take at file ++ replicate (at - length file) gap) + length bytes = length-append (take at file ++ replicate (at - length file) gap) bytes in
    let front : length (take at file ++ replicate (at - length file) gap) ≡ length (take at file) + length (replicate (at - length file) gap) = length-append (take at file) (replicate (at - length file) gap) in
    omega (arith, whole, middle, front, length-take at file, length-drop (at + length bytes) file, length-replicate (at - length file) gap)

length-front : (gap at : ℕ) (bytes file : List ℕ) → at ≤ length file → length (take at file ++ replicate (at - length file) gap ++ bytes) ≡ at + length bytes
length-front gap at bytes file inside =
    let middle : length (take at file ++ replicate (at - length file) gap ++ bytes) ≡ length (take at file ++ replicate (at - length file) gap) + length bytes = length-append (take at file ++ replicate (at - length file) gap) bytes in
    let front : length (take at file ++ replicate (at - length file) gap) ≡ length (take at file) + length (replicate (at - length file) gap) = length-append (take at file) (replicate (at - length file) gap) in
    omega (arith, middle, front, length-take at file, length-replicate (at - length file) gap)

before_range : (gap at : ℕ) (bytes file : List ℕ) (i : ℕ) → i < length file → i < at → get_or (written_over gap at bytes file) i 0 ≡ get_or file i 0
before_range gap at bytes file i inside before =
    let front : i < length (take at file) = omega (arith, length-take at file) in
    let more : i < length (take at file ++ replicate (at - length file) gap) = omega (arith, front, length-append (take at file) (replicate (at - length file) gap)) in
    let most : i < length (take at file ++ replicate (at - length file) gap ++ bytes) = omega (arith, more, length-append (take at file ++ replicate (at - length file) gap) bytes) in
    get_or_append_left (take at file ++ replicate (at - length file) gap ++ bytes) (drop (at + length bytes) file) 0 i most
    ∙ get_or_append_left (take at file ++ replicate (at - length file) gap) bytes 0 i more
    ∙ get_or_append_left (take at file) (replicate (at - length file) gap) 0 i front
    ∙ get_or-take at file i 0 before

behind_range : (gap at : ℕ) (bytes file : List ℕ) (i : ℕ) → i < length file → at + length bytes ≤ i → get_or (written_over gap at bytes file) i 0 ≡ get_or file i 0
behind_range gap at bytes file i inside behind =
    let e : at + length bytes + (i - (at + length bytes)) ≡ i = omega arith in
    get_or-append_right (take at file ++ replicate (at - length file) gap ++ bytes) (drop (at + length bytes) file) (at + length bytes) i 0 (length-front gap at bytes file (omega arith)) behind
    ∙ get_or-drop (at + length bytes) file (i - (at + length bytes)) 0
    ∙ ap (λ (k : ℕ). get_or file k 0) e

pub written_is_torn : (end gap at : ℕ) (bytes file : List ℕ) → Torn end at (length bytes) file (written_over gap at bytes file)
written_is_torn end gap at bytes file = record {
  same = λ i inside old outside. ⊎_elim (before_range gap at bytes file i inside) (behind_range gap at bytes file i inside) outside;
  no_shorter = omega (arith, length-written_over gap at bytes file);
  no_longer = omega (arith, length-written_over gap at bytes file);
}

pub cut_is_short : (n : ℕ) (file : List ℕ) → CutShort n file (take n file)
cut_is_short n file = record {
  same = λ i inside before. get_or-take n file i 0 before;
  no_shorter = omega (arith, length-take n file);
  no_longer = omega (arith, length-take n file);
}

made_may_be_left : (end : ℕ) (change : FileChange) (file : List ℕ) → MayTurnInto end change file (changed change file)
made_may_be_left end (Writes at bytes) file = written_is_torn end 0 at bytes file
made_may_be_left end (Cuts n) file = cut_is_short n file

pub unmade_may_be_left : (end : ℕ) (change : FileChange) (file : List ℕ) → MayTurnInto end change file file
unmade_may_be_left end (Writes at bytes) file = record { same = λ i inside old outside. refl; no_shorter = omega arith; no_longer = omega arith }
unmade_may_be_left end (Cuts n) file = record { same = λ i inside before. refl; no_shorter = omega arith; no_longer = omega arith }

-- ---- the laws of a disk

-- what is read is one of the images
pub reading_is_image : (start : List ℕ) (calls : List DiskCall) → CrashImage start calls (reads_as start calls)
reading_is_image start [] = refl
reading_is_image start (Looked ∷ calls) = reading_is_image start calls
reading_is_image start (Synced ∷ calls) = refl
reading_is_image start (Changed change ∷ calls) = (reads_as start calls, reading_is_image start calls, made_may_be_left (length (reads_as start calls)) change (reads_as start calls))
reading_is_image start (Refused change ∷ calls) = (reads_as start calls, reading_is_image start calls, unmade_may_be_left (length (reads_as start calls)) change (reads_as start calls))

pub content_is_image : (start : List ℕ) (calls : List DiskCall) (bytes : List ℕ) → Some (reads_as start calls) ≡ Some bytes → CrashImage start calls bytes
content_is_image start calls bytes is =
    let same : reads_as start calls ≡ bytes = cc in
    subst (λ (b : List ℕ). CrashImage start calls b) same (reading_is_image start calls)

all_calls : (calls : List DiskCall) (n : ℕ) → length calls ≤ n → calls_until n calls ≡ calls
all_calls calls n all =
    let none : length calls - n ≡ 0 = omega arith in
    ap (λ (k : ℕ). drop k calls) none

pub now_is_since : (start : List ℕ) (calls : List DiskCall) (t : ℕ) (image : List ℕ) → t ≤ length calls → CrashImage start calls image → CrashImageSince start calls t image
now_is_since start calls t image earlier left = record {
  count = length calls;
  since = earlier;
  so_far = omega arith;
  left = subst (λ (c : List DiskCall). CrashImage start c image) (sym (all_calls calls (length calls) (omega arith))) left;
}

pub since_now_is_now : (start : List ℕ) (calls : List DiskCall) (image : List ℕ) → CrashImageSince start calls (length calls) image → CrashImage start calls image
since_now_is_now start calls image since =
    subst (λ (c : List DiskCall). CrashImage start c image) (all_calls calls since.count since.since) since.left
