-- What the two writes of an append make of a log, and what a crash leaves of them.
use Rattle.std.proofs.Common.{◌≡◌, ◌≢◌, ◌⊎◌, inl, inr, ◌+◌, ◌≤◌, ◌∙◌, ℕ, List, [], ◌∷◌, ◌++◌, length, get_or, drop, refl, sym, ap, subst, arith, append_assoc, length-append}
use Rattle.std.specs.Prelude.{All}
use Rattle.std.specs.Int.{w64}
use Rattle.std.proofs.lemmas.Bool.{cases_eq}
use Rattle.std.proofs.lemmas.List.{flat_map_more}
use Rattle.std.proofs.lemmas.List.Elements.{All-append}
use Rattle.byte_frame.specs.Frames.{frame_text}
use Rattle.byte_frame.specs.Spelling.{sized_text}
use Rattle.disk_image.specs.Changes.{Torn}
use Rattle.entry_log.specs.Kept.{IsBeforeOrAfter}
use Rattle.entry_log.specs.Logs.{FitsBody, HasEntries, entries_text, entry_frame, entry_text}
use Rattle.entry_log.proofs.Changes.{torn_at_gate, torn_behind}

-- what stands behind an open gate, with a closed gate behind it
abbrev pub staged_text : List ℕ → List ℕ
staged_text body = sized_text w64 (frame_text (entry_frame body)) ++ 0 ∷ []

pub entries_text-push : (bodies : List (List ℕ)) (body : List ℕ) → entries_text (bodies ++ body ∷ []) ≡ entries_text bodies ++ entry_text body
entries_text-push bodies body = sym (flat_map_more entry_text [] bodies body)

-- the staged entry behind an open gate is one entry more
pub staged_is_entry : (bodies : List (List ℕ)) (body more : List ℕ) → entries_text bodies ++ 1 ∷ (staged_text body ++ more) ≡ entries_text (bodies ++ body ∷ []) ++ 0 ∷ more
staged_is_entry bodies body more =
    ap (λ (l : List ℕ). entries_text bodies ++ 1 ∷ l) (append_assoc (sized_text w64 (frame_text (entry_frame body))) (0 ∷ []) more)
    ∙ sym (append_assoc (entries_text bodies) (entry_text body) (0 ∷ more))
    ∙ ap (λ (l : List ℕ). l ++ 0 ∷ more) (sym (entries_text-push bodies body))

All-one : (body : List ℕ) → FitsBody body → All FitsBody (body ∷ [])
All-one body fits = λ k d inside. at k d (omega (arith, inside))
  where
    at : (k : ℕ) (d : List ℕ) → k ≡ 0 → FitsBody (get_or (body ∷ []) k d)
    at k d is = subst (λ (n : ℕ). FitsBody (get_or (body ∷ []) n d)) (sym is) fits

pub All-push : (bodies : List (List ℕ)) (body : List ℕ) → All FitsBody bodies → FitsBody body → All FitsBody (bodies ++ body ∷ [])
All-push bodies body fits fit = All-append FitsBody bodies (body ∷ []) fits (All-one body fit)

-- a log whose gate is closed
pub closed_log : (bodies : List (List ℕ)) (byte : ℕ) (rest : List ℕ) → byte ≢ 1 → All FitsBody bodies → HasEntries (entries_text bodies ++ byte ∷ rest) bodies
closed_log bodies byte rest shut fits = (length (entries_text bodies), record { byte = byte; rest = rest; text = refl; place = refl; fits = fits; closed = inl shut })

-- behind a closed gate nothing counts
pub staging_leaves : (bodies : List (List ℕ)) (byte n : ℕ) (rest image : List ℕ) → byte ≢ 1 → All FitsBody bodies
    → Torn (length (entries_text bodies ++ byte ∷ rest)) (length (entries_text bodies) + 1) n (entries_text bodies ++ byte ∷ rest) image → HasEntries image bodies
staging_leaves bodies byte n rest image shut fits torn =
    let inside : length (entries_text bodies) + 1 ≤ length (entries_text bodies ++ byte ∷ rest) = omega (arith, length-append (entries_text bodies) (byte ∷ rest)) in
    subst (λ (l : List ℕ). HasEntries l bodies) (sym (torn_behind (length (entries_text bodies ++ byte ∷ rest)) n (entries_text bodies) rest image byte inside torn))
    (closed_log bodies byte (drop (length (entries_text bodies) + 1) image) shut fits)

-- a whole entry behind the gate counts or it doesn't
gate_decides : (bodies : List (List ℕ)) (body more : List ℕ) (byte : ℕ) → All FitsBody bodies → FitsBody body → (byte ≡ 1) ⊎ (byte ≢ 1) → IsBeforeOrAfter bodies body (entries_text bodies ++ byte ∷ (staged_text body ++ more))
gate_decides bodies body more byte fits fit (inl is) =
    inr (subst (λ (b : ℕ). HasEntries (entries_text bodies ++ b ∷ (staged_text body ++ more)) (bodies ++ body ∷ [])) (sym is)
    (subst (λ (l : List ℕ). HasEntries l (bodies ++ body ∷ [])) (sym (staged_is_entry bodies body more)) (closed_log (bodies ++ body ∷ []) 0 more (omega arith) (All-push bodies body fits fit))))
gate_decides bodies body more byte fits fit (inr shut) = inl (closed_log bodies byte (staged_text body ++ more) shut fits)

pub opening_leaves : (bodies : List (List ℕ)) (body more image : List ℕ) (byte : ℕ) → All FitsBody bodies → FitsBody body
    → Torn (length (entries_text bodies ++ byte ∷ (staged_text body ++ more))) (length (entries_text bodies)) 1 (entries_text bodies ++ byte ∷ (staged_text body ++ more)) image → IsBeforeOrAfter bodies body image
opening_leaves bodies body more image byte fits fit torn =
    subst (IsBeforeOrAfter bodies body) (sym (torn_at_gate (entries_text bodies) (staged_text body ++ more) image byte torn))
    (gate_decides bodies body more (get_or image (length (entries_text bodies)) 0) fits fit (cases_eq (get_or image (length (entries_text bodies)) 0) 1))
