-- What a write behind the gate and one at the gate make of bytes, and what a crash may leave of them.
use Rattle.std.proofs.Common.{◌≡◌, ◌⊎◌, inl, inr, ⊎_elim, ◌+◌, ◌-◌, ◌<◌, ◌≤◌, ◌∙◌, ℕ, suc, List, [], ◌∷◌, ◌++◌, length, get_or, take, drop, refl, sym, ap, arith, append_assoc, length-append, length-take, take-append-drop}
use Rattle.std.specs.Prelude.{replicate}
use Rattle.std.proofs.lemmas.Bool.{cases_lt}
use Rattle.std.proofs.lemmas.List.{append-nil, drop_at, drop-drop, ext_get_or, get_or_append_left, get_or_at, get_or-append_right, get_or-take, take_at}
use Rattle.disk_image.specs.Changes.{Torn, written}

-- ---- behind the gate

pub written_behind : (front rest staged : List ℕ) (byte : ℕ) → written (length front + 1) staged (front ++ byte ∷ rest) ≡ front ++ byte ∷ (staged ++ drop (length staged) rest)
written_behind front rest staged byte =
    let old = front ++ byte ∷ rest in
    let kept = front ++ byte ∷ [] in
    let parts : old ≡ kept ++ rest = sym (append_assoc front (byte ∷ []) rest) in
    let long : length kept ≡ length front + 1 = length-append front (byte ∷ []) in
    let whole : length old ≡ length kept + length rest = ap length parts ∙ length-append kept rest in
    let before : take (length front + 1) old ≡ kept = ap (take (length front + 1)) parts ∙ take_at kept rest (length front + 1) long in
    let none : length front + 1 - length old ≡ 0 = omega (arith, whole, long) in
    let gap : replicate (length front + 1 - length old) 0 ≡ [] = ap (λ (n : ℕ). replicate n 0) none in
    let behind : drop (length front + 1 + length staged) old ≡ drop (length staged) rest = ap (drop (length front + 1 + length staged)) parts ∙ dropped kept rest (length front + 1) (length staged) long in
    ap (λ (l : List ℕ). l ++ replicate (length front + 1 - length old) 0 ++ staged ++ drop (length front + 1 + length staged) old) before
    ∙ ap (λ (l : List ℕ). kept ++ l ++ staged ++ drop (length front + 1 + length staged) old) gap
    ∙ ap (λ (l : List ℕ). kept ++ [] ++ staged ++ l) behind
    ∙ ap (λ (l : List ℕ). l ++ staged ++ drop (length staged) rest) (append-nil kept)
    ∙ append_assoc kept staged (drop (length staged) rest)
    ∙ append_assoc front (byte ∷ []) (staged ++ drop (length staged) rest)
  where
    dropped : (kept rest : List ℕ) (n m : ℕ) → length kept ≡ n → drop (n + m) (kept ++ rest) ≡ drop m rest
    dropped kept rest n m long = sym (drop-drop m n (kept ++ rest)) ∙ ap (drop m) (drop_at kept rest n long)

-- what stands up to the gate stays
pub torn_behind : (end n : ℕ) (front rest image : List ℕ) (byte : ℕ) → length front + 1 ≤ end → Torn end (length front + 1) n (front ++ byte ∷ rest) image → image ≡ front ++ byte ∷ drop (length front + 1) image
torn_behind end n front rest image byte inside torn =
    let old = front ++ byte ∷ rest in
    let kept = front ++ byte ∷ [] in
    let parts : old ≡ kept ++ rest = sym (append_assoc front (byte ∷ []) rest) in
    let long : length kept ≡ length front + 1 = length-append front (byte ∷ []) in
    let whole : length old ≡ length kept + length rest = ap length parts ∙ length-append kept rest in
    let room : length front + 1 ≤ length image = omega (arith, whole, long, torn.no_shorter) in
    let same : take (length front + 1) image ≡ take (length front + 1) old =
    ext_get_or 0 _ _ (omega (arith, length-take (length front + 1) image, length-take (length front + 1) old, whole, long, room))
    (λ i below. let lt : i < length front + 1 = omega (arith, below, length-take (length front + 1) image) in
    get_or-take (length front + 1) image i 0 lt ∙ torn.same i (omega (arith, lt, whole, long)) (omega (arith, lt, inside)) (inl lt) ∙ sym (get_or-take (length front + 1) old i 0 lt)) in
    let before : take (length front + 1) old ≡ kept = ap (take (length front + 1)) parts ∙ take_at kept rest (length front + 1) long in
    sym (take-append-drop (length front + 1) image)
    ∙ ap (λ (l : List ℕ). l ++ drop (length front + 1) image) (same ∙ before)
    ∙ append_assoc front (byte ∷ []) (drop (length front + 1) image)

-- ---- at the gate

pub written_at_gate : (front rest : List ℕ) (byte new : ℕ) → written (length front) (new ∷ []) (front ++ byte ∷ rest) ≡ front ++ new ∷ rest
written_at_gate front rest byte new =
    let old = front ++ byte ∷ rest in
    let whole : length old ≡ length front + length (byte ∷ rest) = length-append front (byte ∷ rest) in
    let none : length front - length old ≡ 0 = omega (arith, whole) in
    let before : take (length front) old ≡ front = take_at front (byte ∷ rest) (length front) refl in
    let gap : replicate (length front - length old) 0 ≡ [] = ap (λ (n : ℕ). replicate n 0) none in
    let behind : drop (length front + 1) old ≡ rest = sym (drop-drop 1 (length front) old) ∙ ap (drop 1) (drop_at front (byte ∷ rest) (length front) refl) in
    ap (λ (l : List ℕ). l ++ replicate (length front - length old) 0 ++ (new ∷ []) ++ drop (length front + 1) old) before
    ∙ ap (λ (l : List ℕ). front ++ l ++ (new ∷ []) ++ drop (length front + 1) old) gap
    ∙ ap (λ (l : List ℕ). front ++ [] ++ (new ∷ []) ++ l) behind
    ∙ ap (λ (l : List ℕ). l ++ (new ∷ []) ++ rest) (append-nil front)
    ∙ append_assoc front (new ∷ []) rest

order : (i n : ℕ) → (i < n) ⊎ ((i ≡ n) ⊎ (n < i))
order i n = ⊎_elim (λ before. inl before) (λ later. ⊎_elim (λ behind. inr (inr behind)) (λ no_later. inr (inl (omega (arith, later, no_later)))) (cases_lt n i)) (cases_lt i n)

-- all but the gate stays
pub torn_at_gate : (front rest image : List ℕ) (byte : ℕ) → Torn (length (front ++ byte ∷ rest)) (length front) 1 (front ++ byte ∷ rest) image → image ≡ front ++ get_or image (length front) 0 ∷ rest
torn_at_gate front rest image byte torn =
    let old = front ++ byte ∷ rest in
    let new = get_or image (length front) 0 in
    let whole : length old ≡ length front + length (byte ∷ rest) = length-append front (byte ∷ rest) in
    let whole_new : length (front ++ new ∷ rest) ≡ length front + length (new ∷ rest) = length-append front (new ∷ rest) in
    let long : length image ≡ length old = omega (arith, torn.no_shorter, torn.no_longer, whole) in
    ext_get_or 0 image (front ++ new ∷ rest) (omega (arith, long, whole, whole_new)) (λ i inside. which i (omega (arith, inside, long)) (order i (length front)))
  where
    which : (i : ℕ) → i < length (front ++ byte ∷ rest) → (i < length front) ⊎ ((i ≡ length front) ⊎ (length front < i)) → get_or image i 0 ≡ get_or (front ++ get_or image (length front) 0 ∷ rest) i 0
    which i inside (inl before) =
        torn.same i inside inside (inl before)
        ∙ get_or_append_left front (byte ∷ rest) 0 i before
        ∙ sym (get_or_append_left front (get_or image (length front) 0 ∷ rest) 0 i before)
    which i inside (inr (inl here)) =
        ap (λ (k : ℕ). get_or image k 0) here ∙ sym (get_or_at front (get_or image (length front) 0) rest 0 i (sym here))
    which i inside (inr (inr behind)) =
        let k : ℕ = i - length front - 1 in
        let next : i - length front ≡ suc k = omega (arith, behind) in
        torn.same i inside inside (inr (omega (arith, behind)))
        ∙ get_or-append_right front (byte ∷ rest) (length front) i 0 refl (omega (arith, behind))
        ∙ ap (λ (m : ℕ). get_or (byte ∷ rest) m 0) next
        ∙ sym (ap (λ (m : ℕ). get_or (get_or image (length front) 0 ∷ rest) m 0) next)
        ∙ sym (get_or-append_right front (get_or image (length front) 0 ∷ rest) (length front) i 0 refl (omega (arith, behind)))
