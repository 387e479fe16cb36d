-- Bytes are a log of one list of bodies at most.
use Rattle.std.proofs.Common.{◌≡◌, ◌≢◌, ◌⊎◌, inl, inr, ◌∙◌, ℕ, suc, List, [], ◌∷◌, ◌++◌, length, refl, sym, ap, arith, length-append, append_assoc}
use Rattle.std.specs.Prelude.{All}
use Rattle.entry_log.specs.Laws.{LogsAreOne}
use Rattle.entry_log.specs.Logs.{FitsBody, entries_text, entry_text}
use Rattle.entry_log.proofs.Entries.{entry_is_one, entry_is_long}

-- the byte at the gate isn't 1, or there is nothing else at all
abbrev pub IsClosed : ℕ → List ℕ → List (List ℕ) → Type 0
IsClosed byte rest bodies = (byte ≢ 1) ⊎ ((bodies ≡ []) × (rest ≡ []))

pub All-first : (body : List ℕ) (bodies : List (List ℕ)) → All FitsBody (body ∷ bodies) → FitsBody body
All-first body bodies fits = fits 0 [] (omega arith)

pub All-rest : (body : List ℕ) (bodies : List (List ℕ)) → All FitsBody (body ∷ bodies) → All FitsBody bodies
All-rest body bodies fits = λ k d inside. fits (suc k) d (omega (arith, inside))

-- behind an entry the gate is closed
pub not_open : (byte : ℕ) (rest body : List ℕ) (bodies : List (List ℕ)) → IsClosed byte rest (body ∷ bodies) → byte ≢ 1
not_open byte rest body bodies (inl shut) = shut
not_open byte rest body bodies (inr none) = absurd (let e : body ∷ bodies ≡ [] = none.0 in cc)

-- a gate that is closed begins no entry
pub no_entry : (byte : ℕ) (rest body more : List ℕ) (bodies : List (List ℕ)) → IsClosed byte rest bodies → byte ∷ rest ≡ entry_text body ++ more → ⊥
no_entry byte rest body more bodies (inl shut) same = shut cc
no_entry byte rest body more bodies (inr none) same =
    absurd (omega (arith, ap length same, ap length none.1, length-append (entry_text body) more, entry_is_long body))

same_bodies : (one other : List (List ℕ)) (x y : ℕ) (rest more : List ℕ) → All FitsBody one → All FitsBody other → IsClosed x rest one → IsClosed y more other
    → entries_text one ++ x ∷ rest ≡ entries_text other ++ y ∷ more → one ≡ other
same_bodies [] [] x y rest more fits_one fits_other shut_x shut_y same = refl
same_bodies [] (b ∷ other) x y rest more fits_one fits_other shut_x shut_y same =
    absurd (no_entry x rest b (entries_text other ++ y ∷ more) [] shut_x (same ∙ append_assoc (entry_text b) (entries_text other) (y ∷ more)))
same_bodies (a ∷ one) [] x y rest more fits_one fits_other shut_x shut_y same =
    absurd (no_entry y more a (entries_text one ++ x ∷ rest) [] shut_y (sym same ∙ append_assoc (entry_text a) (entries_text one) (x ∷ rest)))
same_bodies (a ∷ one) (b ∷ other) x y rest more fits_one fits_other shut_x shut_y same =
    let first = entry_is_one a b (entries_text one ++ x ∷ rest) (entries_text other ++ y ∷ more) (All-first a one fits_one) (All-first b other fits_other) (sym (append_assoc (entry_text a) (entries_text one) (x ∷ rest)) ∙ same ∙ append_assoc (entry_text b) (entries_text other) (y ∷ more)) in
    let others : one ≡ other = same_bodies one other x y rest more (All-rest a one fits_one) (All-rest b other fits_other) (inl (not_open x rest a one shut_x)) (inl (not_open y more b other shut_y)) first.1 in
    ap (λ (l : List (List ℕ)). a ∷ l) others ∙ ap (λ (l : List ℕ). l ∷ other) first.0

pub logs_are_one : LogsAreOne
logs_are_one bytes one other gate place left right =
    let same : one ≡ other = same_bodies one other left.byte right.byte left.rest right.rest left.fits right.fits left.closed right.closed (sym left.text ∙ right.text) in
    (same, left.place ∙ ap (λ (l : List (List ℕ)). length (entries_text l)) same ∙ sym right.place)
