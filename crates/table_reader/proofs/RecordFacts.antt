-- Facts about the records of a file and their fields.
use Rattle.std.proofs.Common.{◌≡◌, ℕ, zero, suc, List, [], ◌∷◌, ◌++◌, refl, sym, ap, subst, ◌∙◌, get_or, inl, inr, ◌⊎◌, Some, None}
use Rattle.csv.specs.Machine.{Read, next_record}
use Rattle.csv.specs.Reading.{AreRecords, Reached, default_config, strip_bom}
use Rattle.csv.specs.Records.{field_at}
use Rattle.csv.specs.declared.parser.Config.{Config}
use Rattle.csv.specs.declared.parser.State.{State}
use Rattle.csv.specs.declared.parser.State.TheVariants as st
use Rattle.table_reader.specs.Records.{BeginsWith, HasRecords}

-- the field at a place is the item there
pub field_at-index : (fs : List (List ℕ)) (i : ℕ) (f : List ℕ) → field_at fs i ≡ Some f → get_or fs i [] ≡ f
unfolding field_at
field_at-index [] i f h = cc h
field_at-index (x ∷ fs) zero f h = cc h
field_at-index (x ∷ fs) (suc i) f h = field_at-index fs i f h

pub no_field_at-index : (fs : List (List ℕ)) (i : ℕ) → field_at fs i ≡ None → get_or fs i [] ≡ []
unfolding field_at
no_field_at-index [] i h = refl
no_field_at-index (x ∷ fs) zero h = cc h
no_field_at-index (x ∷ fs) (suc i) h = no_field_at-index fs i h

-- records that stand in front of others take the text to some state and bytes
reached_front : (cfg : Config) (s s2 : State) (xs ys : List ℕ) (front rest : List (List (List ℕ))) → Reached cfg s xs (front ++ rest) s2 ys
    → (s3 : State) × (zs : List ℕ) × Reached cfg s xs front s3 zs
unfolding Reached
reached_front cfg s s2 xs ys [] rest h = (s, xs, (refl, refl))
reached_front cfg s s2 xs ys (r ∷ front) rest h =
    let more = reached_front cfg (h.0).1 s2 (h.0).2 ys front rest h.3 in
    (more.0, more.1, (h.0, h.1, h.2, more.2))

pub begins_front : (bytes : List ℕ) (front rest : List (List (List ℕ))) → BeginsWith bytes (front ++ rest) → BeginsWith bytes front
begins_front bytes front rest h = reached_front default_config st.StartRecord h.0 (strip_bom bytes) h.1 front rest h.2

-- a file has one list of records
one_reading : (cfg : Config) (s s2 s3 : State) (xs ys zs : List ℕ) (rows others : List (List (List ℕ)))
    → Reached cfg s xs rows s2 ys → next_record cfg s2 [] [] ys ≡ None → Reached cfg s xs others s3 zs → next_record cfg s3 [] [] zs ≡ None → rows ≡ others
unfolding Reached
one_reading cfg s s2 s3 xs ys zs [] [] a b c d = refl
one_reading cfg s s2 s3 xs ys zs [] (q ∷ qs) a b c d =
    let none : next_record cfg s [] [] xs ≡ None = rw (a.0, a.1) b in
    cc (sym none ∙ c.1)
one_reading cfg s s2 s3 xs ys zs (r ∷ rs) [] a b c d =
    let none : next_record cfg s [] [] xs ≡ None = rw (c.0, c.1) d in
    cc (sym none ∙ a.1)
one_reading cfg s s2 s3 xs ys zs (r ∷ rs) (q ∷ qs) a b c d =
    let same : a.0 ≡ c.0 = cc (sym a.1 ∙ c.1) in
    let heads : r ≡ q = a.2 ∙ ap (λ (p : Read). p.0) same ∙ sym c.2 in
    let there : Reached cfg (a.0).1 (a.0).2 qs s3 zs = subst (λ (p : Read). Reached cfg p.1 p.2 qs s3 zs) (sym same) c.3 in
    let rest = one_reading cfg (a.0).1 s2 s3 (a.0).2 ys zs rs qs a.3 b there d in
    λ i. heads i ∷ rest i

pub one_list : (bytes : List ℕ) (rows others : List (List (List ℕ))) → HasRecords bytes rows → HasRecords bytes others → rows ≡ others
one_list bytes rows others a b = one_reading default_config st.StartRecord a.0 b.0 (strip_bom bytes) a.1 b.1 rows others a.2 a.3 b.2 b.3

front_of_all : (cfg : Config) (s s2 : State) (xs ys : List ℕ) (rows all : List (List (List ℕ))) → Reached cfg s xs rows s2 ys → AreRecords cfg s xs all
    → (rest : List (List (List ℕ))) × (all ≡ rows ++ rest)
unfolding Reached
front_of_all cfg s s2 xs ys [] all a b = (all, refl)
front_of_all cfg s s2 xs ys (r ∷ rs) [] a b =
    let none : next_record cfg s [] [] xs ≡ None = rw (b.2.0, b.2.1) b.3 in
    cc (sym none ∙ a.1)
front_of_all cfg s s2 xs ys (r ∷ rs) (q ∷ qs) a b =
    let same : a.0 ≡ b.2.0 = cc (sym a.1 ∙ b.2.1) in
    let heads : r ≡ q = a.2 ∙ ap (λ (p : Read). p.0) same ∙ sym b.2.2 in
    let there : Reached cfg (a.0).1 (a.0).2 qs b.0 b.1 = subst (λ (p : Read). Reached cfg p.1 p.2 qs b.0 b.1) (sym same) b.2.3 in
    let rest = front_of_all cfg (a.0).1 s2 (a.0).2 ys rs qs a.3 (b.0, b.1, there, b.3) in
    (rest.0, λ i. sym heads i ∷ rest.1 i)

-- the records that a file begins with stand in front of all its records
pub one_front : (bytes : List ℕ) (rows all : List (List (List ℕ))) → BeginsWith bytes rows → HasRecords bytes all → (rest : List (List (List ℕ))) × (all ≡ rows ++ rest)
one_front bytes rows all a b = front_of_all default_config st.StartRecord a.0 (strip_bom bytes) a.1 rows all a.2 b

-- one list stands in front of the other
abbrev pub IsFrontOf : {A : Type 0} → List A → List A → Type 0
IsFrontOf {A} xs ys = (rest : List A) × (ys ≡ xs ++ rest)

either_front : (cfg : Config) (s s2 s3 : State) (xs ys zs : List ℕ) (rows others : List (List (List ℕ))) → Reached cfg s xs rows s2 ys → Reached cfg s xs others s3 zs
    → IsFrontOf rows others ⊎ IsFrontOf others rows
unfolding Reached
either_front cfg s s2 s3 xs ys zs [] others a b = inl (others, refl)
either_front cfg s s2 s3 xs ys zs (r ∷ rs) [] a b = inr (r ∷ rs, refl)
either_front cfg s s2 s3 xs ys zs (r ∷ rs) (q ∷ qs) a b =
    let same : a.0 ≡ b.0 = cc (sym a.1 ∙ b.1) in
    let heads : r ≡ q = a.2 ∙ ap (λ (p : Read). p.0) same ∙ sym b.2 in
    let there : Reached cfg (a.0).1 (a.0).2 qs s3 zs = subst (λ (p : Read). Reached cfg p.1 p.2 qs s3 zs) (sym same) b.3 in
    elim (either_front cfg (a.0).1 s2 s3 (a.0).2 ys zs rs qs a.3 there) [
      | inl f ↦ inl (f.0, λ i. sym heads i ∷ f.1 i)
      | inr f ↦ inr (f.0, λ i. heads i ∷ f.1 i)
    ]

-- of two lists of records that a file begins with, one stands in front of the other
pub two_fronts : (bytes : List ℕ) (rows others : List (List (List ℕ))) → BeginsWith bytes rows → BeginsWith bytes others → IsFrontOf rows others ⊎ IsFrontOf others rows
two_fronts bytes rows others a b = either_front default_config st.StartRecord a.0 b.0 (strip_bom bytes) a.1 b.1 rows others a.2 b.2
