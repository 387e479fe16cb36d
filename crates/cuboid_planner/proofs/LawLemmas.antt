-- There is one plan, and no cuboid is chosen twice.
use Rattle.std.proofs.Common.{◌≡◌, ◌≢◌, ◌≤◌, ◌<◌, ◌-◌, ℕ, zero, suc, min, Bool, true, false, cond, inl, inr, refl, sym, ap, ap₂, subst, ◌∙◌, arith, List, [], ◌∷◌, ◌++◌, length, get_or, take, map, filter, fold, sum_by}
use Rattle.std.specs.Prelude.{All, AllPairs}
use Rattle.std.proofs.Math.Numerals.{add-one}
use Rattle.std.proofs.lemmas.Bool.{cases_lt, false≢true}
use Rattle.std.proofs.lemmas.List.{take_all, take_more_same, length-take-le, get_or-take}
use Rattle.std.proofs.lemmas.List.Sums.{sum_by-le}
use Rattle.agg_group.specs.declared.mask.Mask.{Mask}
use Rattle.agg_group.specs.Mask.{is_within}
use Rattle.cuboid_planner.specs.declared.cuboid.Size.{Size}
use Rattle.cuboid_planner.specs.declared.cuboid.Pick.{Pick}
use Rattle.cuboid_planner.specs.Sizes.{size_at, base_of, AreSizes}
use Rattle.cuboid_planner.specs.Costs.{cost, saving, benefit}
use Rattle.cuboid_planner.specs.Picks.{IsNextPick, HasNoPick, ArePicks, IsPlan, IsTrace, most_picks}
use Rattle.cuboid_planner.proofs.CostLemmas.{cost_push}
use Rattle.cuboid_planner.proofs.PickLemmas.{next_saves}

abbrev nothing : Size
nothing = record { mask = record { 0 = 0 }; rows = 0 }

-- a mask stands at one place
one_place : (sizes : List Size) → AreSizes sizes → (i j : ℕ) → i < length sizes → j < length sizes → (size_at sizes i).mask.0 ≡ (size_at sizes j).mask.0 → i ≡ j
one_place sizes are i j i_in j_in same =
    elim (cases_lt i j) [
      | inl lt ↦ absurd (omega (arith, same, are.rising i j nothing lt j_in))
      | inr le ↦ elim (cases_lt j i) [ inl lt ↦ absurd (omega (arith, same, are.rising j i nothing lt i_in)) | inr ge ↦ omega arith ]
    ]

-- ---- one next choice
module _ (sizes : List Size) (picks : List Pick) (p q : Pick) (are : AreSizes sizes) (h : IsNextPick sizes picks p) (k : IsNextPick sizes picks q) where
  same_benefit : p.benefit ≡ q.benefit
  same_benefit = omega (arith, h.saved, k.saved, h.greatest k.place k.inside, k.greatest h.place h.inside)

  same_number : p.mask.0 ≡ q.mask.0
  same_number =
      let low = h.least k.place k.inside (sym k.saved ∙ sym same_benefit) in
      let high = k.least h.place h.inside (sym h.saved ∙ same_benefit) in
      omega (arith, low, high, ap (λ (m : Mask). m.0) h.mask, ap (λ (m : Mask). m.0) k.mask)

  mask_of_number : (m n : Mask) → m.0 ≡ n.0 → m ≡ n
  mask_of_number m n e = λ i. record { 0 = e i }

  same_mask : p.mask ≡ q.mask
  same_mask = mask_of_number p.mask q.mask same_number

  same_rows : p.rows ≡ q.rows
  same_rows =
      let place = one_place sizes are h.place k.place h.inside k.inside (ap (λ (m : Mask). m.0) (sym h.mask) ∙ same_number ∙ ap (λ (m : Mask). m.0) k.mask) in
      h.rows ∙ ap (λ (n : ℕ). (size_at sizes n).rows) place ∙ sym k.rows

  same_cost : (m : Mask) → cost sizes (picks ++ p ∷ []) m ≡ cost sizes (picks ++ q ∷ []) m
  same_cost m =
      cost_push sizes picks p m ∙ ap₂ (λ (x : Mask) (r : ℕ). cond (is_within m x) (min (cost sizes picks m) r) (cost sizes picks m)) same_mask same_rows ∙ sym (cost_push sizes picks q m)

  same_total : p.total ≡ q.total
  same_total = h.all ∙ (λ i. sum_by (λ (s : Size). same_cost s.mask i) sizes) ∙ sym k.all

  pub one_next : p ≡ q
  one_next = λ i. record { mask = same_mask i; rows = same_rows i; benefit = same_benefit i; total = same_total i }

-- ---- one plan

abbrev no_pick : Pick
no_pick = record { mask = record { 0 = 0 }; rows = 0; benefit = 0; total = 0 }

-- two lists of choices agree as far as both go
same_front : (sizes : List Size) (a b : List Pick) → AreSizes sizes → ArePicks sizes a → ArePicks sizes b → (i : ℕ) → i ≤ length a → i ≤ length b → take i a ≡ take i b
same_front sizes a b are h k zero a_in b_in = refl
same_front sizes a b are h k (suc i) a_in b_in =
    let before = same_front sizes a b are h k i (omega arith) (omega arith) in
    let there = subst (λ (ps : List Pick). IsNextPick sizes ps (get_or b i no_pick)) (sym before) (k i no_pick (omega arith)) in
    let here = one_next sizes (take i a) (get_or a i no_pick) (get_or b i no_pick) are (h i no_pick (omega arith)) there in
    subst (λ (n : ℕ). take n a ≡ take n b) (add-one i) (take_more_same a b i no_pick (omega arith) (omega arith) before here)

-- a list that goes on behind another isn't a list of choices where nothing is saved behind that one
no_longer : (sizes : List Size) (a b : List Pick) → AreSizes sizes → ArePicks sizes a → ArePicks sizes b → HasNoPick sizes a → length a < length b → ⊥
no_longer sizes a b are h k none lt =
    let front : take (length a) b ≡ a = sym (same_front sizes a b are h k (length a) (omega arith) (omega arith)) ∙ take_all (length a) a (omega arith) in
    next_saves sizes a (get_or b (length a) no_pick) none (subst (λ (ps : List Pick). IsNextPick sizes ps (get_or b (length a) no_pick)) front (k (length a) no_pick lt))

pub one_plan : (sizes : List Size) (most : ℕ) (a b : List Pick) → AreSizes sizes → IsPlan sizes most a → IsPlan sizes most b → a ≡ b
one_plan sizes most a b are h k =
    let long : length a ≡ length b = elim (cases_lt (length a) (length b)) [
      | inl lt ↦ absurd (no_longer sizes a b are h.each k.each (h.whole (omega (arith, lt, k.few))) lt)
      | inr le ↦ elim (cases_lt (length b) (length a)) [
        | inl lt ↦ absurd (no_longer sizes b a are k.each h.each (k.whole (omega (arith, lt, h.few))) lt)
        | inr ge ↦ omega arith
      ]
    ] in
    sym (take_all (length a) a (omega arith)) ∙ same_front sizes a b are h.each k.each (length a) (omega arith) (omega arith) ∙ take_all (length a) b (omega arith)

-- a trace is a front of the plan
pub trace_is_front : (sizes : List Size) (picks whole : List Pick) → AreSizes sizes → IsTrace sizes picks → IsPlan sizes most_picks whole → picks ≡ take (length picks) whole
trace_is_front sizes picks whole are h k =
    let within : length picks ≤ length whole = elim (cases_lt (length whole) (length picks)) [
      | inl lt ↦ absurd (no_longer sizes whole picks are k.each h.0 (k.whole (omega (arith, lt, h.1))) lt)
      | inr le ↦ le
    ] in
    sym (take_all (length picks) picks (omega arith)) ∙ same_front sizes picks whole are h.0 k.each (length picks) (omega arith) within

-- ---- no cuboid twice

fold_min_le : (a : ℕ) (xs : List ℕ) → fold min a xs ≤ a
fold_min_le a [] = omega arith
fold_min_le a (x ∷ xs) = omega (arith, fold_min_le (min a x) xs)

-- no cuboid costs more than the base
cost_le_base : (sizes : List Size) (picks : List Pick) (m : Mask) → cost sizes picks m ≤ (base_of sizes).rows
cost_le_base sizes picks m = fold_min_le (base_of sizes).rows (map (λ (p : Pick). p.rows) (filter (λ (p : Pick). is_within m p.mask) picks))

-- nor than a choice that has its dimensions
module _ (m : Mask) where
  abbrev serves : Pick → Bool
  serves p = is_within m p.mask

  abbrev rows_of : List Pick → List ℕ
  rows_of picks = map (λ (p : Pick). p.rows) (filter serves picks)

  first_le : (base : ℕ) (p : Pick) (picks : List Pick) (b : Bool) → b ≡ true → fold min base (map (λ (x : Pick). x.rows) (cond b (p ∷ filter serves picks) (filter serves picks))) ≤ p.rows
  first_le base p picks true holds = omega (arith, fold_min_le (min base p.rows) (rows_of picks))
  first_le base p picks false holds = absurd (false≢true holds)

  later_le : (base rows : ℕ) (p : Pick) (picks : List Pick) (b : Bool) → ((from : ℕ) → fold min from (rows_of picks) ≤ rows) → fold min base (map (λ (x : Pick). x.rows) (cond b (p ∷ filter serves picks) (filter serves picks))) ≤ rows
  later_le base rows p picks true rest = rest (min base p.rows)
  later_le base rows p picks false rest = rest base

  least_le : (picks : List Pick) (i : ℕ) (d : Pick) → i < length picks → is_within m (get_or picks i d).mask ≡ true → (base : ℕ) → fold min base (rows_of picks) ≤ (get_or picks i d).rows
  least_le [] i d i_in holds base = absurd (omega arith)
  least_le (p ∷ picks) zero d i_in holds base = first_le base p picks (serves p) holds
  least_le (p ∷ picks) (suc i) d i_in holds base = later_le base (get_or picks i d).rows p picks (serves p) (least_le picks i d (omega arith) holds)

-- a cuboid from which all that is within it can be made already, at no more rows, saves nothing
saves_nothing : (sizes : List Size) (picks : List Pick) (choice : Size) → ((m : Mask) → is_within m choice.mask ≡ true → cost sizes picks m ≤ choice.rows) → benefit sizes picks choice ≡ 0
saves_nothing sizes picks choice low =
    let none : All (λ (s : Size). saving sizes picks choice s ≤ 0) sizes = λ k d k_in. each (get_or sizes k d) (is_within (get_or sizes k d).mask choice.mask) refl in
    omega (arith, sum_by-le (saving sizes picks choice) 0 sizes none)
  where
    each : (s : Size) (b : Bool) → is_within s.mask choice.mask ≡ b → saving sizes picks choice s ≤ 0
    each s true e = rw e (omega (arith, low s.mask e))
    each s false e = rw e (omega arith)

module _ (sizes : List Size) (picks : List Pick) (are : AreSizes sizes) (h : ArePicks sizes picks) where
  pub not_base : All (λ (p : Pick). p.mask ≢ (base_of sizes).mask) picks
  not_base i d i_in same =
      let next = h i d i_in in
      let place = one_place sizes are next.place (length sizes - 1) next.inside (omega (arith, are.some)) (ap (λ (m : Mask). m.0) (sym next.mask ∙ same)) in
      let none = saves_nothing sizes (take i picks) (base_of sizes) (λ m _. cost_le_base sizes (take i picks) m) in
      omega (arith, next.some, next.saved, none, ap (λ (n : ℕ). benefit sizes (take i picks) (size_at sizes n)) place)

  pub no_pick_twice : AllPairs (λ (p q : Pick). p.mask ≢ q.mask) picks
  no_pick_twice i j d lt j_in same =
      let one = h i d (omega arith) in
      let next = h j d j_in in
      let place = one_place sizes are one.place next.place one.inside next.inside (ap (λ (m : Mask). m.0) (sym one.mask ∙ same ∙ next.mask)) in
      let before : get_or (take j picks) i d ≡ get_or picks i d = get_or-take j picks i d lt in
      let rows : (get_or picks i d).rows ≡ (size_at sizes next.place).rows = one.rows ∙ ap (λ (n : ℕ). (size_at sizes n).rows) place in
      let mask : (get_or picks i d).mask ≡ (size_at sizes next.place).mask = same ∙ next.mask in
      let none = saves_nothing sizes (take j picks) (size_at sizes next.place) (λ m holds.
      let there : is_within m (get_or (take j picks) i d).mask ≡ true = ap (λ (p : Pick). is_within m p.mask) before ∙ ap (λ (x : Mask). is_within m x) mask ∙ holds in
      omega (arith, rows, ap (λ (p : Pick). p.rows) before, least_le m (take j picks) i d (omega (arith, length-take-le j picks (omega arith))) there (base_of sizes).rows)) in
      omega (arith, next.some, next.saved, none)
