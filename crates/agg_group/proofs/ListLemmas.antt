-- Lemmas on lists of lists, and on a list's repeats.
use Rattle.std.proofs.Common.{◌≡◌, ℕ, zero, suc, ◌+◌, ◌<◌, ◌≤◌, Bool, true, false, cond, ◌&&◌, ◌||◌, List, [], ◌∷◌, ◌++◌, map, length, get_or, take, drop, refl, sym, ap, ◌∙◌, subst, inl, inr, arith, count_by, All}
use Rattle.std.specs.List.{list_all, list_any, range_with_len}
use Rattle.std.proofs.lemmas.List.{at_drop_more, map_more, get_or-map, length-map}
use Rattle.std.proofs.lemmas.List.Sums.{sum_by-cons, sum_by-append, sum_by_push}
use Rattle.std.proofs.lemmas.Bool.{cases_eq, or_left, or_right, or_from}
use Rattle.smallvec.specs.SmallVec.{SmallVec}
use Rattle.agg_group.specs.Sets.{is_among}
use Rattle.agg_group.specs.Rules.{Rules, rule_lists, lists_of}
use Rattle.agg_group.specs.Faults.{has_repeat, is_in_two, overlaps}

-- a test of what a function gives
pub list_any-map : {X Y : Type 0} (p : Y → Bool) (f : X → Y) (xs : List X) → list_any p (map f xs) ≡ list_any (λ x. p (f x)) xs
list_any-map p f [] = refl
list_any-map p f (x ∷ xs) = ap (λ b. p (f x) || b) (list_any-map p f xs)

pub list_all-map : {X Y : Type 0} (p : Y → Bool) (f : X → Y) (xs : List X) → list_all p (map f xs) ≡ list_all (λ x. p (f x)) xs
list_all-map p f [] = refl
list_all-map p f (x ∷ xs) = ap (λ b. p (f x) && b) (list_all-map p f xs)

-- ---- a repeat, one dimension at a time
pub repeat_here : (ds : List ℕ) (i : ℕ) → i < length ds → is_among (get_or ds i 0) (drop (i + 1) ds) ≡ true → has_repeat (drop i ds) ≡ true
repeat_here ds i below h = at_drop_more has_repeat ds i 0 below ∙ or_left _ _ h

pub repeat_later : (ds : List ℕ) (i : ℕ) → i < length ds → is_among (get_or ds i 0) (drop (i + 1) ds) ≡ false → has_repeat (drop i ds) ≡ has_repeat (drop (i + 1) ds)
repeat_later ds i below h = at_drop_more has_repeat ds i 0 below ∙ ap (λ b. b || has_repeat (drop (i + 1) ds)) h

-- ---- a test of each dimension
pub any_of_range : (p : ℕ → Bool) (a n d : ℕ) → a ≤ d → d < a + n → p d ≡ true → list_any p (range_with_len a n) ≡ true
any_of_range p a zero d low high h = absurd (omega arith)
any_of_range p a (suc n) d low high h =
    elim (cases_eq d a) [
      | inl e ↦ or_left (p a) _ (rw e at h)
      | inr ne ↦ or_right (p a) _ (any_of_range p (a + 1) n d (omega arith) (omega arith) h)
    ]

pub none_of_range : (p : ℕ → Bool) (a n : ℕ) → ((d : ℕ) → a ≤ d → d < a + n → p d ≡ false) → list_any p (range_with_len a n) ≡ false
none_of_range p a zero h = refl
none_of_range p a (suc n) h =
    or_from (p a) _ (h a (omega arith) (omega arith)) (none_of_range p (a + 1) n (λ d low high. h d (omega arith) (omega arith)))

pub overlap_at : (g : Rules) (d : ℕ) → d < 64 → is_in_two (rule_lists g) d ≡ true → overlaps g ≡ true
unfolding overlaps
overlap_at g d below h = any_of_range (is_in_two (rule_lists g)) 0 64 d (omega arith) (omega arith) h

pub no_overlap : (g : Rules) → ((d : ℕ) → d < 64 → is_in_two (rule_lists g) d ≡ false) → overlaps g ≡ false
unfolding overlaps
no_overlap g h = none_of_range (is_in_two (rule_lists g)) 0 64 (λ d low high. h d (omega arith))

-- how many rules have a dimension, kind by kind
pub rules_with : (g : Rules) (d : ℕ) → count_by (is_among d) (rule_lists g) ≡ cond (is_among d g.mandatory) 1 0 + (count_by (is_among d) g.hierarchies + count_by (is_among d) g.joints)
rules_with g d =
    sum_by-cons (λ ds. cond (is_among d ds) 1 0) g.mandatory (g.hierarchies ++ g.joints)
    ∙ ap (λ n. cond (is_among d g.mandatory) 1 0 + n) (sum_by-append (λ ds. cond (is_among d ds) 1 0) g.hierarchies g.joints)

-- one more list
pub count_lists_more : (p : List ℕ → Bool) (lists : List (SmallVec ℕ)) (i : ℕ) (x : SmallVec ℕ) → i < length lists → x ≡ get_or lists i x → count_by p (lists_of (take (i + 1) lists)) ≡ count_by p (lists_of (take i lists)) + cond (p x.items) 1 0
count_lists_more p lists i x below is =
    ap (count_by p) (map_more (λ l. l.items) lists i x below)
    ∙ sum_by_push (λ ds. cond (p ds) 1 0) (lists_of (take i lists)) (get_or lists i x).items
    ∙ ap (λ l. count_by p (lists_of (take i lists)) + cond (p l.items) 1 0) (sym is)

-- a fact of each list's dimensions
pub all_lists : (P : List ℕ → Type 0) (lists : List (SmallVec ℕ)) → All (λ l. P l.items) lists → All P (lists_of lists)
all_lists P lists h = λ k d low.
    let inside : k < length lists = omega (arith, length-map lists (λ (l : SmallVec ℕ). l.items)) in
    let none : SmallVec ℕ = record { items = []; capacity = 0 } in
    subst P (sym (get_or-map (λ (l : SmallVec ℕ). l.items) lists k none d inside)) (h k none inside)

-- .. and of one of them
pub one_list : (P : List ℕ → Type 0) (lists : List (SmallVec ℕ)) (i : ℕ) (x : SmallVec ℕ) → i < length lists → x ≡ get_or lists i x → All P (lists_of lists) → P x.items
one_list P lists i x inside is h =
    let low : i < length (lists_of lists) = omega (arith, length-map lists (λ (l : SmallVec ℕ). l.items)) in
    subst P (get_or-map (λ (l : SmallVec ℕ). l.items) lists i x [] inside ∙ ap (λ (l : SmallVec ℕ). l.items) (sym is)) (h i [] low)
