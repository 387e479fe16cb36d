-- What a further choice makes of the costs.
use Rattle.std.proofs.Common.{◌≡◌, ◌≤◌, ◌<◌, ◌+◌, ◌-◌, ℕ, min, Bool, true, false, cond, inl, inr, refl, sym, ap, ap₂, subst, ◌∙◌, arith, List, [], ◌∷◌, ◌++◌, length, get_or, set, take, map, filter, fold, sum_by}
use Rattle.std.specs.Prelude.{slice_index}
use Rattle.std.proofs.lemmas.List.{map-append, get_or_default, get_or-set_same, get_or-set_other, length-set}
use Rattle.std.proofs.lemmas.Bool.{cases_eq}
use Rattle.std.proofs.lemmas.List.Elements.{filter-append}
use Rattle.std.proofs.lemmas.List.Sums.{fold-append, sum_by_more}
use Rattle.agg_group.specs.declared.mask.Mask.{Mask}
use Rattle.agg_group.specs.Mask.{is_within}
use Rattle.cuboid_planner.specs.declared.cuboid.Size.{Size}
use Rattle.cuboid_planner.specs.declared.cuboid.Pick.{Pick}
use Rattle.cuboid_planner.specs.Sizes.{size_at, base_of, most_rows}
use Rattle.cuboid_planner.specs.Costs.{cost, saving}
use Rattle.cuboid_planner.specs.Kept.{HasCosts, AreLow}

-- the cost with one choice more
pub cost_push : (sizes : List Size) (picks : List Pick) (p : Pick) (m : Mask) → cost sizes (picks ++ p ∷ []) m ≡ cond (is_within m p.mask) (min (cost sizes picks m) p.rows) (cost sizes picks m)
cost_push sizes picks p m =
    ap (λ ps. fold min base (map rows ps)) (filter-append q picks (p ∷ []))
    ∙ ap (fold min base) (map-append rows (filter q picks) (filter q (p ∷ [])))
    ∙ fold-append min base (map rows (filter q picks)) (map rows (filter q (p ∷ [])))
    ∙ by_case (is_within m p.mask)
  where
    base : ℕ
    base = (base_of sizes).rows

    rows : Pick → ℕ
    rows x = x.rows

    q : Pick → Bool
    q x = is_within m x.mask

    by_case : (b : Bool) → fold min (cost sizes picks m) (map rows (cond b (p ∷ []) [])) ≡ cond b (min (cost sizes picks m) p.rows) (cost sizes picks m)
    by_case true = refl
    by_case false = refl

-- costs that are mended are those with the choice
pub mended_costs : (sizes : List Size) (picks : List Pick) (p : Pick) (old new : List ℕ) → HasCosts sizes picks old → ((k : ℕ) → k < length sizes → slice_index new k ≡ cond (is_within (size_at sizes k).mask p.mask) (min (slice_index old k) p.rows) (slice_index old k)) → HasCosts sizes (picks ++ p ∷ []) new
mended_costs sizes picks p old new h mended k k_in =
    mended k k_in ∙ ap (λ n. cond (is_within (size_at sizes k).mask p.mask) (min n p.rows) n) (h k k_in) ∙ sym (cost_push sizes picks p (size_at sizes k).mask)

-- ---- sums over the cuboids so far, and one more
module _ (sizes : List Size) (picks : List Pick) (costs : List ℕ) (h : HasCosts sizes picks costs) (k : ℕ) (d : Size) (k_in : k < length sizes) where
  cost_there : slice_index costs k ≡ cost sizes picks (get_or sizes k d).mask
  cost_there = h k k_in ∙ ap (λ (s : Size). cost sizes picks s.mask) (get_or_default sizes k (record { mask = record { 0 = 0 }; rows = 0 }) d k_in)

  sum_more : (f : Size → ℕ) (sum added : ℕ) → sum ≡ sum_by f (take k sizes) → added ≡ f (get_or sizes k d) → sum + added ≡ sum_by f (take (k + 1) sizes)
  sum_more f sum added so_far one = ap₂ ◌+◌ so_far one ∙ sym (sum_by_more f sizes k d k_in)

  pub saved_more : (choice : Size) (sum added : ℕ) → sum ≡ sum_by (saving sizes picks choice) (take k sizes) → added ≡ cond (is_within (get_or sizes k d).mask choice.mask) (slice_index costs k - choice.rows) 0 → sum + added ≡ sum_by (saving sizes picks choice) (take (k + 1) sizes)
  saved_more choice sum added so_far one = sum_more (saving sizes picks choice) sum added so_far (one ∙ ap (λ n. cond (is_within (get_or sizes k d).mask choice.mask) (n - choice.rows) 0) cost_there)

  pub cost_more : (sum : ℕ) → sum ≡ sum_by (λ s. cost sizes picks s.mask) (take k sizes) → sum + slice_index costs k ≡ sum_by (λ s. cost sizes picks s.mask) (take (k + 1) sizes)
  cost_more sum so_far = sum_more (λ s. cost sizes picks s.mask) sum (slice_index costs k) so_far cost_there

-- ---- costs that are mended one after the other

-- the costs of the cuboids below the place are mended, and the others as before
pub record Mended (sizes : List Size) (choice : Size) (old now : List ℕ) (place : ℕ) : Type 0 where
  pub done : (j : ℕ) → j < place → slice_index now j ≡ cond (is_within (size_at sizes j).mask choice.mask) (min (slice_index old j) choice.rows) (slice_index old j)
  pub rest : (j : ℕ) → place ≤ j → slice_index now j ≡ slice_index old j
  pub long : length now ≡ length old

pub mended_more : (sizes : List Size) (choice : Size) (old now : List ℕ) (k value : ℕ) (d : Size) → k < length sizes → k < length now → Mended sizes choice old now k → value ≡ cond (is_within (get_or sizes k d).mask choice.mask) (min (slice_index now k) choice.rows) (slice_index now k) → Mended sizes choice old (set now k value) (k + 1)
mended_more sizes choice old now k value d k_in now_in h is = record {
  done = λ j lt. elim (cases_eq j k) [
    | inl e ↦ subst (λ (n : ℕ). slice_index (set now k value) n ≡ cond (is_within (size_at sizes n).mask choice.mask) (min (slice_index old n) choice.rows) (slice_index old n)) (sym e) here
    | inr ne ↦ get_or-set_other now k j value 0 ne ∙ h.done j (omega arith)
  ];
  rest = λ j le. get_or-set_other now k j value 0 (λ e. absurd (omega (arith, e, le))) ∙ h.rest j (omega arith);
  long = length-set now k value ∙ h.long;
}
  where
    here : slice_index (set now k value) k ≡ cond (is_within (size_at sizes k).mask choice.mask) (min (slice_index old k) choice.rows) (slice_index old k)
    here =
        get_or-set_same now k value 0 now_in ∙ is
        ∙ ap (λ (s : Size). cond (is_within s.mask choice.mask) (min (slice_index now k) choice.rows) (slice_index now k)) (get_or_default sizes k d (record { mask = record { 0 = 0 }; rows = 0 }) k_in)
        ∙ ap (λ n. cond (is_within (size_at sizes k).mask choice.mask) (min n choice.rows) n) (h.rest k (omega arith))

pub mended_low : (sizes : List Size) (choice : Size) (old now : List ℕ) (place : ℕ) → AreLow sizes old → Mended sizes choice old now place → length sizes ≤ place → AreLow sizes now
mended_low sizes choice old now place low h all = (omega (arith, low.0, h.long), each) where
  lower : (b : Bool) (n : ℕ) → n ≤ most_rows → cond b (min n choice.rows) n ≤ most_rows
  lower true n le = omega (arith, le)
  lower false n le = le

  each : (k : ℕ) → k < length sizes → slice_index now k ≤ most_rows
  each k k_in = subst (λ (n : ℕ). n ≤ most_rows) (sym (h.done k (omega arith))) (lower (is_within (size_at sizes k).mask choice.mask) (slice_index old k) (low.1 k k_in))
