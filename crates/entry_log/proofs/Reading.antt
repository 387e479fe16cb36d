-- What is read of an entry, and of a log, is what was written.
use Rattle.std.proofs.Common.{◌≡◌, ◌≢◌, ◌⊎◌, inl, inr, ◌<◌, ◌^◌, ◌∙◌, ℕ, List, [], ◌∷◌, ◌++◌, length, ◌-◌, drop, Option, Some, None, true, refl, sym, ap, subst, arith, length-append, append_assoc}
use Rattle.std.specs.Prelude.{All, Vec, not, false, replicate, if◌then◌else◌, ◌==◌}
use Rattle.std.specs.Str.{bytes_eq}
use Rattle.std.proofs.lemmas.List.{drop_at}
use Rattle.std.proofs.lemmas.Slice.Eq.{bytes_eq-Decides}
use Rattle.byte_frame.specs.declared.frames.FrameHead.{FrameHead}
use Rattle.std.specs.declared.alloc.Global.{Global}
use Rattle.std.specs.Int.{w64}
use Rattle.std.proofs.lemmas.List.Elements.{All-nil}
use Rattle.byte_frame.specs.Exact.{Exact, IsBytes}
use Rattle.byte_frame.specs.Frames.{Frame, IsFrameOf, frame_of, frame_text}
use Rattle.byte_frame.specs.FrameReading.{frame_at}
use Rattle.byte_frame.specs.Reading.{sized_at}
use Rattle.byte_frame.specs.Spelling.{sized_text}
use Rattle.byte_frame.proofs.Exact.{exact_sized, exact_tagged, wide64}
use Rattle.byte_frame.proofs.ExactFrames.{frame_again, length-frame_text}
use Rattle.disk_image.specs.Changes.{Torn}
use Rattle.disk_image.specs.Crashes.{IsDurable}
use Rattle.entry_log.specs.Kept.{IsStill, Keeps}
use Rattle.entry_log.proofs.Appended.{entries_text-push}
use Rattle.entry_log.specs.Logs.{FitsBody, HasEntries, IsLog, IsNoEntry, IsNoLog, gate_is_shut, bodies_of, entries_text, entry_frame, entry_text, gated_at}
use Rattle.entry_log.proofs.Entries.{entry_is_one, frame_fits, length-frame}
use Rattle.entry_log.proofs.OneLog.{All-first, All-rest, IsClosed, logs_are_one, no_entry}

-- ---- a frame behind its gate

exact_gated : Exact (λ (t : List ℕ). 1 ∷ sized_text w64 t) (λ (t : List ℕ). (length t < 2 ^ 64) × (true ≡ true)) gated_at
exact_gated = exact_tagged 1 (sized_text w64) (λ (t : List ℕ). (length t < 2 ^ 64) × (true ≡ true)) (sized_at w64 (λ _. true)) (omega arith) (exact_sized w64 (2 ^ 64) (λ n. true) wide64)

-- a frame of an entry has a body that fits
body_fits : (frame body : List ℕ) → IsFrameOf frame (entry_frame body) → length frame < 2 ^ 64 → FitsBody body
body_fits frame body is short = omega (arith, ap length is.text, length-frame_text (entry_frame body) is.fits, short)

abbrev Taken : Type 0
Taken = List ℕ × List ℕ

taken_same : (x y : Taken) → Some x ≡ Some y → x ≡ y
taken_same x y e = cc

not_none : (x : Taken) → Some x ≡ None → ⊥
not_none x e = cc

pub entry_taken : (bytes frame body rest : List ℕ) → IsBytes bytes → gated_at bytes ≡ Some (frame, rest) → IsFrameOf frame (entry_frame body) → FitsBody body × (bytes ≡ entry_text body ++ rest)
entry_taken bytes frame body rest fit read is =
    let found = exact_gated.takes bytes (frame, rest) fit read in (
      body_fits frame body is found.1.0,
      found.0.parts ∙ ap (λ (t : List ℕ). (1 ∷ sized_text w64 t) ++ rest) is.text,
    )

gated_again : (body rest : List ℕ) → FitsBody body → gated_at (entry_text body ++ rest) ≡ Some (frame_text (entry_frame body), rest)
gated_again body rest fits = exact_gated.again (frame_text (entry_frame body)) rest (omega (arith, length-frame body fits, fits), refl)

pub nothing_gated : (bytes : List ℕ) → gated_at bytes ≡ None → IsNoEntry bytes
nothing_gated bytes none = λ body rest fits is. not_none (frame_text (entry_frame body), rest) (sym (gated_again body rest fits) ∙ ap gated_at (sym is) ∙ none)

pub no_frame_gated : (bytes frame more : List ℕ) → gated_at bytes ≡ Some (frame, more) → ((body : List ℕ) → ¬ IsFrameOf frame (entry_frame body)) → IsNoEntry bytes
no_frame_gated bytes frame more read none = λ body rest fits is.
    let same = taken_same (frame, more) (frame_text (entry_frame body), rest) (sym read ∙ ap gated_at is ∙ gated_again body rest fits) in
    none body (record { fits = frame_fits body fits; text = ap (λ (t : Taken). t.0) same })

-- ---- a frame with another head

one_frame : (f g : Frame) → Some f ≡ Some g → f ≡ g
one_frame f g e = cc

-- bytes are one frame at most
pub frames_same : (bytes : List ℕ) (f g : Frame) → IsFrameOf bytes f → IsFrameOf bytes g → f ≡ g
frames_same bytes f g is_f is_g = one_frame f g (sym (frame_again f is_f.fits) ∙ ap frame_at (sym is_f.text ∙ is_g.text) ∙ frame_again g is_g.fits)

entry_head : (version : ℕ) (task : List ℕ) → version ≡ 2 → task ≡ replicate 32 0 → (if version == 2 then bytes_eq task (replicate 32 0) else false) ≡ true
entry_head version task two none =
    let e : bytes_eq task (replicate 32 0) ≡ true = (bytes_eq-Decides task (replicate 32 0)).1 none in
    rw (two, e) refl

-- a frame whose head isn't that of an entry is no entry's frame
pub other_head : (head : FrameHead) (found frame body : List ℕ) → IsFrameOf frame (frame_of head found) → false ≡ (if head.version == 2 then bytes_eq head.task (replicate 32 0) else false) → ¬ IsFrameOf frame (entry_frame body)
other_head head found frame body is other = λ entry.
    let same = frames_same frame (frame_of head found) (entry_frame body) is entry in
    let e = other ∙ entry_head head.version head.task (ap (λ (f : Frame). f.version) same) (ap (λ (f : Frame). f.task) same) in
    absurd cc

-- what is left behind a front
pub behind_front : (bytes front rest : List ℕ) → bytes ≡ front ++ rest → drop (length bytes - length rest) bytes ≡ rest
behind_front bytes front rest is =
    let n : length bytes - length rest ≡ length front = omega (arith, ap length is, length-append front rest) in
    ap (λ (k : ℕ). drop k bytes) n ∙ ap (drop (length front)) is ∙ drop_at front rest (length front) refl

-- ---- a log

pub single_log : (bytes : List ℕ) → length bytes ≡ 1 → IsLog bytes [] 0
single_log [] one = absurd (omega (arith, one))
single_log (byte ∷ []) one = record { byte = byte; rest = []; text = refl; place = refl; fits = All-nil FitsBody; closed = inr (refl, refl) }
single_log (byte ∷ more ∷ rest) one = absurd (omega (arith, one))

open_shut : (byte : ℕ) (more : List ℕ) → byte ≢ 1 → gate_is_shut (byte ∷ more) ≡ false → ⊥
open_shut byte more shut open_gate = absurd grind arith

no_log_behind : (so_far other : List (List ℕ)) (byte : ℕ) (rest more : List ℕ) → All FitsBody so_far → All FitsBody other → byte ≢ 1
    → entries_text so_far ++ rest ≡ entries_text other ++ byte ∷ more → IsNoEntry rest → gate_is_shut rest ≡ false → ⊥
no_log_behind [] [] byte rest more fits_so_far fits_other shut same none open_gate = open_shut byte more shut (ap gate_is_shut (sym same) ∙ open_gate)
no_log_behind [] (b ∷ other) byte rest more fits_so_far fits_other shut same none open_gate =
    none b (entries_text other ++ byte ∷ more) (All-first b other fits_other) (same ∙ append_assoc (entry_text b) (entries_text other) (byte ∷ more))
no_log_behind (a ∷ so_far) [] byte rest more fits_so_far fits_other shut same none open_gate =
    no_entry byte more a (entries_text so_far ++ rest) [] (inl shut) (sym same ∙ append_assoc (entry_text a) (entries_text so_far) rest)
no_log_behind (a ∷ so_far) (b ∷ other) byte rest more fits_so_far fits_other shut same none open_gate =
    let first = entry_is_one a b (entries_text so_far ++ rest) (entries_text other ++ byte ∷ more) (All-first a so_far fits_so_far) (All-first b other fits_other) (sym (append_assoc (entry_text a) (entries_text so_far) rest) ∙ same ∙ append_assoc (entry_text b) (entries_text other) (byte ∷ more)) in
    no_log_behind so_far other byte rest more (All-rest a so_far fits_so_far) (All-rest b other fits_other) shut first.1 none open_gate

-- behind the entries that were read stand neither an entry nor a closed gate
pub no_log : (bytes rest : List ℕ) (so_far : List (List ℕ)) → length bytes ≢ 1 → bytes ≡ entries_text so_far ++ rest → All FitsBody so_far → IsNoEntry rest → gate_is_shut rest ≡ false → IsNoLog bytes
no_log bytes rest so_far several text fits none open_gate = λ bodies log. which bodies log.1.byte log.1.rest log.1.text log.1.fits log.1.closed
  where
    which : (bodies : List (List ℕ)) (byte : ℕ) (more : List ℕ) → bytes ≡ entries_text bodies ++ byte ∷ more → All FitsBody bodies → IsClosed byte more bodies → ⊥
    which bodies byte more is fits_bodies (inl shut) = no_log_behind so_far bodies byte rest more fits fits_bodies shut (sym text ∙ is) none open_gate
    which bodies byte more is fits_bodies (inr single) =
        several (omega (arith, ap length is, length-append (entries_text bodies) (byte ∷ more), ap (λ (l : List (List ℕ)). length (entries_text l)) single.0, ap length single.1))

-- one entry more was read
pub one_more : (bytes rest body behind : List ℕ) (so_far : List (List ℕ)) → bytes ≡ entries_text so_far ++ rest → rest ≡ entry_text body ++ behind → bytes ≡ entries_text (so_far ++ body ∷ []) ++ behind
one_more bytes rest body behind so_far text is =
    text ∙ ap (λ (l : List ℕ). entries_text so_far ++ l) is
    ∙ sym (append_assoc (entries_text so_far) (entry_text body) behind)
    ∙ ap (λ (l : List ℕ). l ++ behind) (sym (entries_text-push so_far body))

-- ---- one byte

-- a crash leaves one byte of a write to a file of one byte
pub still_single : (file left : List ℕ) → length file ≡ 1 → Torn (length file) 0 1 file left → IsStill file left
still_single file left one torn = λ bodies log.
    let none : [] ≡ bodies = (logs_are_one file [] bodies 0 log.0 (single_log file one) log.1).0 in
    subst (HasEntries left) none (0, single_log left (omega (arith, one, torn.no_shorter, torn.no_longer)))

pub single_kept : (file written_file : List ℕ) (gate : ℕ) (bodies : List (List ℕ)) → length file ≡ 1 → IsLog file bodies gate → (bodies ≡ []) × (gate ≡ 0)
single_kept file written_file gate bodies one log =
    let same = logs_are_one file bodies [] gate 0 log (single_log file one) in (same.0, same.1)

-- a log whose gate is closed stands for a disk on which it is durable
pub kept_log : (content : Option (List ℕ)) (crash_image : List ℕ → Type 0) (bytes : List ℕ) (gate : ℕ) (bodies : List (List ℕ)) → content ≡ Some bytes → IsDurable bytes crash_image → IsLog bytes bodies gate → ¬ (bytes ≡ 1 ∷ []) → Keeps content crash_image gate bodies
kept_log content crash_image bytes gate bodies told only log several = record {
  byte = log.byte;
  rest = log.rest;
  closed = shut log.closed;
  told = told ∙ ap (λ (l : List ℕ). Some l) log.text;
  place = log.place;
  fits = log.fits;
  only = subst (λ (l : List ℕ). IsDurable l crash_image) log.text only;
}
  where
    shut : (log.byte ≢ 1) ⊎ ((bodies ≡ []) × (log.rest ≡ [])) → log.byte ≢ 1
    shut (inl closed) = closed
    shut (inr single) = λ is. several (log.text ∙ ap (λ (l : List (List ℕ)). entries_text l ++ log.byte ∷ log.rest) single.0 ∙ ap (λ (l : List ℕ). log.byte ∷ l) single.1 ∙ ap (λ (b : ℕ). b ∷ []) is)

-- ---- the gate behind the entries

pub closed_gate : (bytes rest : List ℕ) (so_far : List (List ℕ)) → bytes ≡ entries_text so_far ++ rest → All FitsBody so_far → gate_is_shut rest ≡ true → IsLog bytes so_far (length bytes - length rest)
closed_gate bytes [] so_far text fits shut = absurd cc
closed_gate bytes (byte ∷ rest) so_far text fits shut = record {
  byte = byte;
  rest = rest;
  text = text;
  place = omega (arith, ap length text, length-append (entries_text so_far) (byte ∷ rest));
  fits = fits;
  closed = inl (λ one. absurd (let e : not (1 == 1) ≡ true = ap (λ (b : ℕ). not (b == 1)) (sym one) ∙ shut in cc));
}

-- ---- one body more, as bodies are held

pub bodies-push : (bodies : List (Vec ℕ Global)) (body : Vec ℕ Global) → bodies_of (bodies ++ body ∷ []) ≡ bodies_of bodies ++ body.items ∷ []
bodies-push [] body = refl
bodies-push (b ∷ bodies) body = ap (λ (l : List (List ℕ)). b.items ∷ l) (bodies-push bodies body)
