-- Lists of dimensions that stand once, and lists of such lists.
use Rattle.std.proofs.Common.{◌≡◌, ℕ, ◌<◌, ◌≤◌, Bool, true, false, cond, ◌||◌, not, eqb, List, [], ◌∷◌, ◌++◌, filter, refl, sym, ap, ◌∙◌, inl, inr, arith, count_by, All, Contains, Decides}
use Rattle.std.specs.List.{concat, list_any}
use Rattle.std.proofs.lemmas.List.Sums.{sum_by-cons}
use Rattle.std.proofs.lemmas.List.Folds.{list_any-append}
use Rattle.std.proofs.lemmas.List.Elements.{All-head, All-tail, Decides-contains}
use Rattle.std.proofs.lemmas.Bool.{cases_Bool, or_cases, or_parts, or_from, or_left, or_right, eqb-true, eq-eqb, not-false, false_from_ne_true, false≢true}
use Rattle.std.proofs.lemmas.Bool.Decides.{Decides-eqb, Decides-by_or}
use Rattle.agg_group.specs.Sets.{is_among}
use Rattle.agg_group.specs.Rules.{AreDimensions}
use Rattle.agg_group.specs.Faults.{has_repeat, has_other}

pub among_decides : (d : ℕ) (ds : List ℕ) → Decides (is_among d ds) (Contains ds d)
among_decides d ds =
    Decides-contains ds d (is_among d ds)
    (Decides-by_or (λ x. eqb x d) (λ x. x ≡ d) (list_any (λ x. eqb x d)) (λ x. Decides-eqb x d) refl (λ _ _. refl) ds)

pub either_list : (d : ℕ) (xs ys : List ℕ) → is_among d (xs ++ ys) ≡ (is_among d xs || is_among d ys)
either_list d xs ys = list_any-append (λ x. eqb x d) xs ys

pub among_left : (d : ℕ) (xs ys : List ℕ) → is_among d xs ≡ true → is_among d (xs ++ ys) ≡ true
among_left d xs ys h = either_list d xs ys ∙ or_left _ _ h

pub among_right : (d : ℕ) (xs ys : List ℕ) → is_among d ys ≡ true → is_among d (xs ++ ys) ≡ true
among_right d xs ys h = either_list d xs ys ∙ or_right _ _ h

-- ---- two lists, one after the other
pub repeat_parts : (xs ys : List ℕ) → has_repeat (xs ++ ys) ≡ false → (has_repeat ys ≡ false) × ((d : ℕ) → is_among d xs ≡ true → is_among d ys ≡ false)
repeat_parts [] ys h = (h, λ d at. absurd (false≢true at))
repeat_parts (a ∷ xs) ys h =
    let parts = or_parts (is_among a (xs ++ ys)) (has_repeat (xs ++ ys)) h in
    let rest = repeat_parts xs ys parts.1 in (
      rest.0,
      λ d at.
          elim (or_cases (eqb a d) (is_among d xs) at) [
            | inl e ↦ ap (λ x. is_among x ys) (sym (eqb-true a d e)) ∙ (or_parts (is_among a xs) (is_among a ys) (sym (either_list a xs ys) ∙ parts.0)).1
            | inr later ↦ rest.1 d later
          ],
    )

pub repeat_append : (xs ys : List ℕ) → has_repeat xs ≡ false → has_repeat ys ≡ false → ((d : ℕ) → is_among d xs ≡ true → is_among d ys ≡ false) → has_repeat (xs ++ ys) ≡ false
repeat_append [] ys once later apart = later
repeat_append (a ∷ xs) ys once later apart =
    let parts = or_parts (is_among a xs) (has_repeat xs) once in
    or_from _ _ (either_list a xs ys ∙ or_from _ _ parts.0 (apart a (or_left (eqb a a) (is_among a xs) (eq-eqb a a refl))))
    (repeat_append xs ys parts.1 later (λ d at. apart d (or_right (eqb a d) (is_among d xs) at)))

-- ---- lists of lists
pub among_concat : (d : ℕ) (lists : List (List ℕ)) → is_among d (concat lists) ≡ list_any (is_among d) lists
among_concat d [] = refl
among_concat d (l ∷ lists) = either_list d l (concat lists) ∙ ap (λ b. is_among d l || b) (among_concat d lists)

none_counted : (p : List ℕ → Bool) (lists : List (List ℕ)) → count_by p lists ≡ 0 → list_any p lists ≡ false
none_counted p [] h = refl
none_counted p (l ∷ lists) h =
    let e = sum_by-cons (λ x. cond (p x) 1 0) l lists in
    elim (cases_Bool (p l)) [
      | inl passes ↦ absurd (omega (arith, e, ap {B = ℕ} (λ b. cond b 1 0) passes))
      | inr fails ↦ or_from (p l) (list_any p lists) fails (none_counted p lists (omega (arith, e)))
    ]

fewer : (p : List ℕ → Bool) (l : List ℕ) (lists : List (List ℕ)) → count_by p (l ∷ lists) ≤ 1 → count_by p lists ≤ 1
fewer p l lists h = omega (arith, sum_by-cons (λ x. cond (p x) 1 0) l lists)

none_else : (p : List ℕ → Bool) (l : List ℕ) (lists : List (List ℕ)) → count_by p (l ∷ lists) ≤ 1 → p l ≡ true → list_any p lists ≡ false
none_else p l lists h passes = none_counted p lists (omega (arith, sum_by-cons (λ x. cond (p x) 1 0) l lists, ap {B = ℕ} (λ b. cond b 1 0) passes))

-- lists without repeats, of which no two have a dimension in common
pub concat_once : (lists : List (List ℕ)) → list_any has_repeat lists ≡ false → ((d : ℕ) → is_among d (concat lists) ≡ true → count_by (is_among d) lists ≤ 1) → has_repeat (concat lists) ≡ false
concat_once [] once few = refl
concat_once (l ∷ lists) once few =
    let parts = or_parts (has_repeat l) (list_any has_repeat lists) once in
    repeat_append l (concat lists) parts.0
    (concat_once lists parts.1 (λ d at. fewer (is_among d) l lists (few d (among_right d l (concat lists) at))))
    (λ d at. among_concat d lists ∙ none_else (is_among d) l lists (few d (among_left d l (concat lists) at)) at)

pub all_below : (n d : ℕ) (ds : List ℕ) → All (λ x. x < n) ds → is_among d ds ≡ true → d < n
all_below n d [] h at = absurd (false≢true at)
all_below n d (x ∷ ds) h at =
    elim (or_cases (eqb x d) (is_among d ds) at) [
      | inl e ↦ omega (arith, eqb-true x d e, All-head (λ y. y < n) x ds h)
      | inr later ↦ all_below n d ds (All-tail (λ y. y < n) x ds h) later
    ]

pub lists_below : (d : ℕ) (lists : List (List ℕ)) → All AreDimensions lists → is_among d (concat lists) ≡ true → d < 64
lists_below d [] h at = absurd (false≢true at)
lists_below d (l ∷ lists) h at =
    elim (or_cases (is_among d l) (is_among d (concat lists)) (sym (either_list d l (concat lists)) ∙ at)) [
      | inl here ↦ all_below 64 d l (All-head AreDimensions l lists h) here
      | inr later ↦ lists_below d lists (All-tail AreDimensions l lists h) later
    ]

-- ---- what a filter leaves
filtered : (p : ℕ → Bool) (d x : ℕ) (ds : List ℕ) (b : Bool) → p x ≡ b → (is_among d (filter p ds) ≡ true → (is_among d ds ≡ true) × (p d ≡ true))
    → is_among d (cond b (x ∷ filter p ds) (filter p ds)) ≡ true → (is_among d (x ∷ ds) ≡ true) × (p d ≡ true)
filtered p d x ds true e later at =
    elim (or_cases (eqb x d) (is_among d (filter p ds)) at) [
      | inl same ↦ (or_left _ _ same, ap p (sym (eqb-true x d same)) ∙ e)
      | inr rest ↦ (or_right (eqb x d) _ (later rest).0, (later rest).1)
    ]
filtered p d x ds false e later at = (or_right (eqb x d) _ (later at).0, (later at).1)

pub filter_among : (p : ℕ → Bool) (d : ℕ) (ds : List ℕ) → is_among d (filter p ds) ≡ true → (is_among d ds ≡ true) × (p d ≡ true)
filter_among p d [] h = absurd (false≢true h)
filter_among p d (x ∷ ds) h = filtered p d x ds (p x) refl (filter_among p d ds) h

left : (p : ℕ → Bool) (d x : ℕ) (ds : List ℕ) (b : Bool) → p x ≡ b → p d ≡ true → (is_among d ds ≡ true → is_among d (filter p ds) ≡ true)
    → is_among d (x ∷ ds) ≡ true → is_among d (cond b (x ∷ filter p ds) (filter p ds)) ≡ true
left p d x ds true e passes later at =
    elim (or_cases (eqb x d) (is_among d ds) at) [ inl same ↦ or_left _ _ same | inr rest ↦ or_right (eqb x d) _ (later rest) ]
left p d x ds false e passes later at =
    elim (or_cases (eqb x d) (is_among d ds) at) [
      | inl same ↦ absurd (false≢true (sym e ∙ ap p (eqb-true x d same) ∙ passes))
      | inr rest ↦ later rest
    ]

pub among_filter : (p : ℕ → Bool) (d : ℕ) (ds : List ℕ) → p d ≡ true → is_among d ds ≡ true → is_among d (filter p ds) ≡ true
among_filter p d [] passes at = at
among_filter p d (x ∷ ds) passes at = left p d x ds (p x) refl passes (among_filter p d ds passes) at

once_left : (p : ℕ → Bool) (x : ℕ) (ds : List ℕ) (b : Bool) → is_among x ds ≡ false → has_repeat (filter p ds) ≡ false → has_repeat (cond b (x ∷ filter p ds) (filter p ds)) ≡ false
once_left p x ds true none rest =
    or_from _ _ (false_from_ne_true _ (λ at. false≢true (sym none ∙ (filter_among p x ds at).0))) rest
once_left p x ds false none rest = rest

pub filter_once : (p : ℕ → Bool) (ds : List ℕ) → has_repeat ds ≡ false → has_repeat (filter p ds) ≡ false
filter_once p [] h = refl
filter_once p (x ∷ ds) h =
    let parts = or_parts (is_among x ds) (has_repeat ds) h in once_left p x ds (p x) parts.0 (filter_once p ds parts.1)

-- a dimension of no list but one that strays
pub none_strays : (includes : List ℕ) (d : ℕ) (ds : List ℕ) → has_other includes ds ≡ false → is_among d ds ≡ true → is_among d includes ≡ true
none_strays includes d [] h at = absurd (false≢true at)
none_strays includes d (x ∷ ds) h at =
    let parts = or_parts (not (is_among x includes)) (has_other includes ds) h in
    elim (or_cases (eqb x d) (is_among d ds) at) [
      | inl e ↦ ap (λ y. is_among y includes) (sym (eqb-true x d e)) ∙ not-false (is_among x includes) parts.0
      | inr later ↦ none_strays includes d ds parts.1 later
    ]

pub no_list_strays : (includes : List ℕ) (d : ℕ) (lists : List (List ℕ)) → list_any (has_other includes) lists ≡ false → is_among d (concat lists) ≡ true → is_among d includes ≡ true
no_list_strays includes d [] h at = absurd (false≢true at)
no_list_strays includes d (l ∷ lists) h at =
    let parts = or_parts (has_other includes l) (list_any (has_other includes) lists) h in
    elim (or_cases (is_among d l) (is_among d (concat lists)) (sym (either_list d l (concat lists)) ∙ at)) [
      | inl here ↦ none_strays includes d l parts.0 here
      | inr later ↦ no_list_strays includes d lists parts.1 later
    ]
