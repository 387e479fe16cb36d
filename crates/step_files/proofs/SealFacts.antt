-- Seals that are read have short lists.
use Rattle.std.proofs.Common.{◌≡◌, ◌≤◌, ℕ, zero, suc, Bool, List, [], ◌∷◌, length, Option, Some, None, ap, arith, cond, refl, subst}
use Rattle.std.specs.Prelude.{nat_le}
use Rattle.std.specs.Int.{w32}
use Rattle.byte_frame.specs.Reading.{◌>>=◌, as_at, if_at, items_at, list_at, number_at, then_at}
use Rattle.byte_frame.proofs.Exact.{bind_some, guard_some, not_over, some_is}
use Rattle.byte_frame.specs.Spelling.{rises}
use Rattle.range_list.specs.Ranges.{Interval}
use Rattle.step_fields.specs.Reading.{range_at}
use Rattle.step_codec.specs.Seals.{cuboid_at, done_at, is_part_count, mask_before, most_items, seal_at, seal_from, steps_follow}
use Rattle.step_codec.specs.declared.seal.CuboidRows.{CuboidRows}
use Rattle.step_codec.specs.declared.seal.DoneStep.{DoneStep}
use Rattle.step_codec.specs.declared.seal.SealBody.{SealBody}

-- what is read has a property, whatever the bytes are
abbrev pub Only : {A : Type 0} → (A → Type 0) → (List ℕ → Option (A × List ℕ)) → Type 0
Only {A = A} P r = (bytes : List ℕ) (z : A × List ℕ) → r bytes ≡ Some z → P z.0

only_as : {A B : Type 0} (to : A → B) (P : A → Type 0) (Q : B → Type 0) (r : List ℕ → Option (A × List ℕ)) → ((x : A) → P x → Q (to x)) → Only P r → Only Q (as_at to r)
only_as {B = B} to P Q r step read = λ bytes z e.
    let a = bind_some (r bytes) (λ x. Some (to x.0, x.1)) z e in
    let made : B × List ℕ = (to a.0.0, a.0.1) in
    subst (λ (y : B × List ℕ). Q y.0) (some_is made z a.2) (step a.0.0 (read bytes a.0 a.1))

only_if : {A : Type 0} (test : A → Bool) (P : A → Type 0) (r : List ℕ → Option (A × List ℕ)) → Only P r → Only P (if_at test r)
only_if {A = A} test P r read = λ bytes z e.
    let a = bind_some (r bytes) (λ x. cond (test x.0) (Some x) None) z e in
    let g = guard_some (test a.0.0) a.0 z a.2 in
    subst (λ (y : A × List ℕ). P y.0) g.1 (read bytes a.0 a.1)

only_then : {A B : Type 0} (P : A → Type 0) (Q : B → Type 0) (r : List ℕ → Option (A × List ℕ)) (q : A → List ℕ → Option (B × List ℕ)) → Only P r → ((x : A) → Only Q (q x)) → Only (λ (p : A × B). P p.0 × Q p.1) (then_at r q)
only_then {A = A} {B = B} P Q r q one two = λ bytes z e.
    let a = bind_some (r bytes) (λ x. q x.0 x.1 >>= λ y. Some ((x.0, y.0), y.1)) z e in
    let b = bind_some (q a.0.0 a.0.1) (λ y. Some ((a.0.0, y.0), y.1)) z a.2 in
    let made : (A × B) × List ℕ = ((a.0.0, b.0.0), b.0.1) in
    subst (λ (y : (A × B) × List ℕ). P y.0.0 × Q y.0.1) (some_is made z b.2) (one bytes a.0 a.1, two a.0.0 a.0.1 b.0 b.1)

any : {A : Type 0} (r : List ℕ → Option (A × List ℕ)) → Only (λ (x : A). Unit {0}) r
any r = λ bytes z e. tt

items_length : {A : Type 0} (r : List ℕ → Option (A × List ℕ)) (n : ℕ) (bytes : List ℕ) (z : List A × List ℕ) → items_at r n bytes ≡ Some z → length z.0 ≡ n
unfolding items_at
items_length {A = A} r zero bytes z e = subst (λ (y : List A × List ℕ). length y.0 ≡ 0) (some_is ([], bytes) z e) refl
items_length {A = A} r (suc n) bytes z e =
    let a = bind_some (r bytes) (λ x. items_at r n x.1 >>= λ xs. Some (x.0 ∷ xs.0, xs.1)) z e in
    let b = bind_some (items_at r n a.0.1) (λ xs. Some (a.0.0 ∷ xs.0, xs.1)) z a.2 in
    let made : List A × List ℕ = (a.0.0 ∷ b.0.0, b.0.1) in
    subst (λ (y : List A × List ℕ). length y.0 ≡ suc n) (some_is made z b.2) (ap suc (items_length r n a.0.1 b.0 b.1))

only_list : {A : Type 0} (limit : ℕ) (r : List ℕ → Option (A × List ℕ)) → Only (λ (xs : List A). length xs ≤ limit) (list_at limit r)
only_list {A = A} limit r = λ bytes z e.
    let a = bind_some (then_at (if_at (λ n. nat_le n limit) (number_at w32)) (λ n. items_at r n) bytes) (λ p. Some (p.0.1, p.1)) z e in
    let b = bind_some (if_at (λ n. nat_le n limit) (number_at w32) bytes) (λ x. items_at r x.0 x.1 >>= λ y. Some ((x.0, y.0), y.1)) a.0 a.1 in
    let n = bind_some (number_at w32 bytes) (λ x. cond (nat_le x.0 limit) (Some x) None) b.0 b.1 in
    let g = guard_some (nat_le n.0.0 limit) n.0 b.0 n.2 in
    let i = bind_some (items_at r b.0.0 b.0.1) (λ y. Some ((b.0.0, y.0), y.1)) a.0 b.2 in
    let made : (ℕ × List A) × List ℕ = ((b.0.0, i.0.0), i.0.1) in
    let pair : List A × List ℕ = (a.0.0.1, a.0.1) in
    let few : n.0.0 ≤ limit = not_over limit n.0.0 g.0 in
    let fewer : b.0.0 ≤ limit = subst (λ (y : ℕ × List ℕ). y.0 ≤ limit) g.1 few in
    let long : length i.0.0 ≡ b.0.0 = items_length r b.0.0 b.0.1 i.0 i.1 in
    let inside : length a.0.0.1 ≤ limit = subst (λ (y : (ℕ × List A) × List ℕ). length y.0.1 ≤ limit) (some_is made a.0 i.2) (omega (arith, long, fewer)) in
    subst (λ (y : List A × List ℕ). length y.0 ≤ limit) (some_is pair z a.2) inside

-- ---- seals

abbrev pub IsShortSeal : SealBody → Type 0
IsShortSeal s = (length s.done ≤ most_items) × (length s.cuboids ≤ most_items)

abbrev parts_at : List ℕ → Option (ℕ × List ℕ)
parts_at = if_at is_part_count (number_at w32)

abbrev lists_at : List ℕ → Option ((List DoneStep × List CuboidRows) × List ℕ)
lists_at = then_at (if_at (steps_follow 1) (list_at most_items done_at)) (λ _. if_at (rises mask_before) (list_at most_items cuboid_at))

abbrev AreShort : List DoneStep × List CuboidRows → Type 0
AreShort p = (length p.0 ≤ most_items) × (length p.1 ≤ most_items)

only_lists : Only AreShort lists_at
only_lists =
    only_then (λ (done : List DoneStep). length done ≤ most_items) (λ (cuboids : List CuboidRows). length cuboids ≤ most_items) (if_at (steps_follow 1) (list_at most_items done_at))
    (λ _. if_at (rises mask_before) (list_at most_items cuboid_at))
    (only_if (steps_follow 1) (λ (done : List DoneStep). length done ≤ most_items) (list_at most_items done_at) (only_list most_items done_at))
    (λ _. only_if (rises mask_before) (λ (cuboids : List CuboidRows). length cuboids ≤ most_items) (list_at most_items cuboid_at) (only_list most_items cuboid_at))

only_short : Only IsShortSeal seal_at
unfolding seal_at
only_short =
    only_as seal_from (λ (p : Interval × (ℕ × (List DoneStep × List CuboidRows))). Unit {0} × (Unit {0} × AreShort p.1.1)) IsShortSeal (then_at range_at (λ _. then_at parts_at (λ _. lists_at))) (λ p h. h.1.1)
    (only_then (λ (r : Interval). Unit {0}) (λ (p : ℕ × (List DoneStep × List CuboidRows)). Unit {0} × AreShort p.1) range_at (λ _. then_at parts_at (λ _. lists_at)) (any range_at)
    (λ _. only_then (λ (n : ℕ). Unit {0}) AreShort parts_at (λ _. lists_at) (any parts_at) (λ _. only_lists)))

pub seal_short : (bytes : List ℕ) (s : SealBody) (rest : List ℕ) → seal_at bytes ≡ Some (s, rest) → IsShortSeal s
seal_short bytes s rest e = only_short bytes (s, rest) e
