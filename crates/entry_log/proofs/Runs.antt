-- The calls of an append and of a creation, as runs on a disk.
use Rattle.std.proofs.Common.{◌≡◌, inl, inr, ◌+◌, ◌≤◌, ◌∙◌, ℕ, List, [], ◌∷◌, ◌++◌, length, drop, Option, Some, refl, sym, ap, subst, arith, length-append}
use Rattle.std.proofs.lemmas.List.Elements.{All-nil}
use Rattle.disk_image.specs.Changes.{Torn, written}
use Rattle.disk_image.specs.Crashes.{CrashCondition, IsDurable}
use Rattle.disk_image.proofs.CrashConditions.{of_no_call, of_both, of_weaker}
use Rattle.entry_log.specs.Kept.{IsBeforeOrAfter, IsEmptyOr, Keeps}
use Rattle.entry_log.specs.Logs.{FitsBody, HasEntries, entries_text, entry_text}
use Rattle.entry_log.proofs.Changes.{written_at_gate, written_behind}
use Rattle.entry_log.proofs.Appended.{All-push, closed_log, entries_text-push, opening_leaves, staged_is_entry, staged_text, staging_leaves}

-- ---- over bytes

staged_is : (bodies : List (List ℕ)) (body rest staged : List ℕ) (byte gate : ℕ) → gate ≡ length (entries_text bodies) → staged ≡ staged_text body
    → written (gate + 1) staged (entries_text bodies ++ byte ∷ rest) ≡ entries_text bodies ++ byte ∷ (staged_text body ++ drop (length staged) rest)
staged_is bodies body rest staged byte gate place is =
    ap (λ (n : ℕ). written (n + 1) staged (entries_text bodies ++ byte ∷ rest)) place
    ∙ written_behind (entries_text bodies) rest staged byte
    ∙ ap (λ (l : List ℕ). entries_text bodies ++ byte ∷ (l ++ drop (length staged) rest)) is

opened_is : (bodies : List (List ℕ)) (body more : List ℕ) (byte gate : ℕ) → gate ≡ length (entries_text bodies)
    → written gate (1 ∷ []) (entries_text bodies ++ byte ∷ (staged_text body ++ more)) ≡ entries_text (bodies ++ body ∷ []) ++ 0 ∷ more
opened_is bodies body more byte gate place =
    ap (λ (n : ℕ). written n (1 ∷ []) (entries_text bodies ++ byte ∷ (staged_text body ++ more))) place
    ∙ written_at_gate (entries_text bodies) (staged_text body ++ more) byte 1
    ∙ staged_is_entry bodies body more

-- the gate behind the new entry
next_gate : (bodies : List (List ℕ)) (body staged : List ℕ) (gate : ℕ) → gate ≡ length (entries_text bodies) → staged ≡ staged_text body → gate + length staged ≡ length (entries_text (bodies ++ body ∷ []))
next_gate bodies body staged gate place is =
    let pushed : length (entries_text (bodies ++ body ∷ [])) ≡ length (entries_text bodies) + length (entry_text body) = ap length (entries_text-push bodies body) ∙ length-append (entries_text bodies) (entry_text body) in
    let long : length staged ≡ length (entry_text body) = ap length is ∙ one_more body in
    omega (arith, pushed, long, place)
  where
    one_more : (body : List ℕ) → length (staged_text body) ≡ length (entry_text body)
    one_more body = let e = length-append (drop 1 (entry_text body)) (0 ∷ []) in omega (arith, e)

-- ---- over a disk

module _ {D : Type 0} (clock : D → ℕ) (image_since : D → ℕ → List ℕ → Type 0) (content : D → Option (List ℕ)) (crash_image : D → List ℕ → Type 0) where
  -- a write was kept
  abbrev Wrote : D → D → ℕ → List ℕ → Type 0
  Wrote old new at bytes = (file : List ℕ) → content old ≡ Some file → (content new ≡ Some (written at bytes file)) × IsDurable (written at bytes file) (crash_image new)

  -- its crash condition
  abbrev Leaves : D → D → ℕ → List ℕ → Type 0
  Leaves old new at bytes = (file : List ℕ) → content old ≡ Some file → IsDurable file (crash_image old) → CrashCondition clock image_since old new (Torn (length file) at (length bytes) file)

  -- nothing was written yet
  pub unwritten : (disk : D) (gate : ℕ) (bodies : List (List ℕ)) (body : List ℕ) → ((image : List ℕ) → image_since disk (clock disk) image → crash_image disk image) → Keeps (content disk) (crash_image disk) gate bodies
      → CrashCondition clock image_since disk disk (IsBeforeOrAfter bodies body)
  unwritten disk gate bodies body since_now_is_now keeps =
      of_no_call clock image_since disk (IsBeforeOrAfter bodies body) (λ image left.
      inl (subst (λ (l : List ℕ). HasEntries l bodies) (sym (keeps.only image (since_now_is_now image left))) (closed_log bodies keeps.byte keeps.rest keeps.closed keeps.fits)))

  -- the entry was staged
  pub staging : (old mid : D) (gate : ℕ) (bodies : List (List ℕ)) (body staged : List ℕ) → Keeps (content old) (crash_image old) gate bodies → Leaves old mid (gate + 1) staged
      → CrashCondition clock image_since old mid (IsBeforeOrAfter bodies body)
  staging old mid gate bodies body staged keeps leaves =
      let file = entries_text bodies ++ keeps.byte ∷ keeps.rest in
      of_weaker clock image_since old mid (Torn (length file) (gate + 1) (length staged) file) (IsBeforeOrAfter bodies body)
      (λ image torn. inl (staging_leaves bodies keeps.byte (length staged) keeps.rest image keeps.closed keeps.fits
      (subst (λ (n : ℕ). Torn (length file) (n + 1) (length staged) file image) keeps.place torn)))
      (leaves file keeps.told keeps.only)

  -- the staged entry, and the disk
  staged_disk : (old mid : D) (gate : ℕ) (bodies : List (List ℕ)) (body staged : List ℕ) (keeps : Keeps (content old) (crash_image old) gate bodies) → staged ≡ staged_text body → Wrote old mid (gate + 1) staged
      → (content mid ≡ Some (entries_text bodies ++ keeps.byte ∷ (staged_text body ++ drop (length staged) keeps.rest))) × IsDurable (entries_text bodies ++ keeps.byte ∷ (staged_text body ++ drop (length staged) keeps.rest)) (crash_image mid)
  staged_disk old mid gate bodies body staged keeps is wrote =
      let file = entries_text bodies ++ keeps.byte ∷ keeps.rest in
      subst (λ (l : List ℕ). (content mid ≡ Some l) × IsDurable l (crash_image mid)) (staged_is bodies body keeps.rest staged keeps.byte gate keeps.place is) (wrote file keeps.told)

  -- the gate was opened
  pub opening : (old mid new : D) (gate : ℕ) (bodies : List (List ℕ)) (body staged : List ℕ) → Keeps (content old) (crash_image old) gate bodies → staged ≡ staged_text body → FitsBody body
      → Wrote old mid (gate + 1) staged → Leaves old mid (gate + 1) staged → Leaves mid new gate (1 ∷ []) → CrashCondition clock image_since old new (IsBeforeOrAfter bodies body)
  opening old mid new gate bodies body staged keeps is fit wrote first second =
      let at_mid = staged_disk old mid gate bodies body staged keeps is wrote in
      let more = drop (length staged) keeps.rest in
      let file = entries_text bodies ++ keeps.byte ∷ (staged_text body ++ more) in
      of_both clock image_since old mid new (IsBeforeOrAfter bodies body)
      (staging old mid gate bodies body staged keeps first)
      (of_weaker clock image_since mid new (Torn (length file) gate 1 file) (IsBeforeOrAfter bodies body)
      (λ image torn. opening_leaves bodies body more image keeps.byte keeps.fits fit
      (subst (λ (n : ℕ). Torn (length file) n 1 file image) keeps.place torn))
      (second file at_mid.0 at_mid.1))

  -- the entry is there
  pub appended : (old mid new : D) (gate : ℕ) (bodies : List (List ℕ)) (body staged : List ℕ) → Keeps (content old) (crash_image old) gate bodies → staged ≡ staged_text body → FitsBody body
      → Wrote old mid (gate + 1) staged → Wrote mid new gate (1 ∷ []) → Keeps (content new) (crash_image new) (gate + length staged) (bodies ++ body ∷ [])
  appended old mid new gate bodies body staged keeps is fit first second =
      let at_mid = staged_disk old mid gate bodies body staged keeps is first in
      let more = drop (length staged) keeps.rest in
      let at_new = subst (λ (l : List ℕ). (content new ≡ Some l) × IsDurable l (crash_image new)) (opened_is bodies body more keeps.byte gate keeps.place) (second (entries_text bodies ++ keeps.byte ∷ (staged_text body ++ more)) at_mid.0) in
      record {
        byte = 0;
        rest = more;
        closed = omega arith;
        told = at_new.0;
        place = next_gate bodies body staged gate keeps.place is;
        fits = All-push bodies body keeps.fits fit;
        only = at_new.1;
      }

  -- what is read after a run meets its crash condition
  pub reads_one : (old new : D) (P : List ℕ → Type 0) (bytes : List ℕ) → ((t : ℕ) (image : List ℕ) → t ≤ clock new → crash_image new image → image_since new t image) → crash_image new bytes → CrashCondition clock image_since old new P → P bytes
  reads_one old new P bytes now_is_since left run = run.meets bytes (now_is_since (clock old) bytes run.clock_on left)

  -- ---- a log that is made

  -- what a crash leaves of the first byte
  first_byte : (image : List ℕ) → Torn 0 0 1 [] image → IsEmptyOr image
  first_byte [] torn = inl refl
  first_byte (byte ∷ []) torn = inr (0, record { byte = byte; rest = []; text = refl; place = refl; fits = All-nil FitsBody; closed = inr (refl, refl) })
  first_byte (byte ∷ more ∷ rest) torn = absurd (omega (arith, torn.no_longer))

  pub making : (old new : D) → content old ≡ Some [] → IsDurable [] (crash_image old) → Leaves old new 0 (0 ∷ []) → CrashCondition clock image_since old new IsEmptyOr
  making old new none only leaves = of_weaker clock image_since old new (Torn 0 0 1 []) IsEmptyOr first_byte (leaves [] none only)

  pub made : (old new : D) → content old ≡ Some [] → Wrote old new 0 (0 ∷ []) → Keeps (content new) (crash_image new) 0 []
  made old new none wrote =
      let at_new = wrote [] none in
      record { byte = 0; rest = []; closed = omega arith; told = at_new.0; place = refl; fits = All-nil FitsBody; only = at_new.1 }
