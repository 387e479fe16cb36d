-- Choices one after the other.
use Rattle.std.proofs.Common.{◌≡◌, ◌≢◌, ◌≤◌, ◌<◌, ◌+◌, ◌-◌, ◌↔◌, ℕ, inl, inr, sym, subst, ◌∙◌, arith, List, [], ◌∷◌, ◌++◌, length, get_or, take, length-append, replicate}
use Rattle.std.proofs.lemmas.Bool.{cases_eq, cases_lt}
use Rattle.std.proofs.lemmas.List.{length-take, length-replicate, take-take, take_at, take-append-le, get_or-take, get_or_append_left, get_or_at, get_or_default, get_or-replicate}
use Rattle.cuboid_planner.specs.declared.cuboid.Size.{Size}
use Rattle.cuboid_planner.specs.declared.cuboid.Pick.{Pick}
use Rattle.cuboid_planner.specs.Sizes.{base_of, AreSizes}
use Rattle.cuboid_planner.specs.Kept.{HasCosts, AreLow}
use Rattle.cuboid_planner.specs.Picks.{IsNextPick, ArePicks, IsTrace, IsFirstWrong, most_picks}
use Rattle.cuboid_planner.proofs.LawLemmas.{one_next}

-- ---- before the first choice

-- every cuboid costs the base
pub first_costs : (sizes : List Size) (n base : ℕ) → AreSizes sizes → length sizes ≤ n → base ≡ (base_of sizes).rows → HasCosts sizes [] (replicate n base)
first_costs sizes n base are room is k k_in = get_or-replicate n k base 0 (omega arith) ∙ is

pub first_low : (sizes : List Size) (n base : ℕ) → AreSizes sizes → length sizes ≤ n → base ≡ (base_of sizes).rows → AreLow sizes (replicate n base)
first_low sizes n base are room is =
    (omega (arith, length-replicate n base), λ k k_in. omega (arith, get_or-replicate n k base 0 (omega arith), is, are.small (length sizes - 1) (record { mask = record { 0 = 0 }; rows = 0 }) (omega (arith, are.some))))

-- ---- choices of a front part
module _ (sizes : List Size) (picks : List Pick) (n : ℕ) where
  from_front : ArePicks sizes (take n picks) → (i : ℕ) (d : Pick) → i < n → i < length picks → IsNextPick sizes (take i picks) (get_or picks i d)
  from_front h i d lt i_in =
      subst (λ (ps : List Pick). IsNextPick sizes ps (get_or picks i d)) (take-take i n picks (omega arith))
      (subst (λ (p : Pick). IsNextPick sizes (take i (take n picks)) p) (get_or-take n picks i d lt) (h i d (omega (arith, length-take n picks))))

  to_front : ((i : ℕ) (d : Pick) → i < n → i < length picks → IsNextPick sizes (take i picks) (get_or picks i d)) → ArePicks sizes (take n picks)
  to_front h i d i_in =
      let low : i < n = omega (arith, length-take n picks) in
      subst (λ (ps : List Pick). IsNextPick sizes ps (get_or (take n picks) i d)) (sym (take-take i n picks (omega arith)))
      (subst (λ (p : Pick). IsNextPick sizes (take i picks) p) (sym (get_or-take n picks i d low)) (h i d low (omega (arith, length-take n picks))))

-- one choice more
pub trace_more : (sizes : List Size) (picks : List Pick) (place : ℕ) (d : Pick) → place < length picks → place ≢ most_picks → IsTrace sizes (take place picks) → IsNextPick sizes (take place picks) (get_or picks place d) → IsTrace sizes (take (place + 1) picks)
trace_more sizes picks place d place_in other h next =
    (to_front sizes picks (place + 1) each, omega (arith, h.1, other, length-take place picks, length-take (place + 1) picks)) where
      each : (i : ℕ) (e : Pick) → i < place + 1 → i < length picks → IsNextPick sizes (take i picks) (get_or picks i e)
      each i e lt i_in =
          elim (cases_eq i place) [
            | inl same ↦ subst (λ (n : ℕ). IsNextPick sizes (take n picks) (get_or picks n e)) (sym same) (subst (λ (p : Pick). IsNextPick sizes (take place picks) p) (get_or_default picks place d e place_in) next)
            | inr ne ↦ from_front sizes picks place h.0 i e (omega arith) i_in
          ]

-- a choice that isn't the next one is the first that is wrong
pub wrong_next : (sizes : List Size) (picks : List Pick) (place : ℕ) (d : Pick) → place < length picks → IsTrace sizes (take place picks) → ¬ (IsNextPick sizes (take place picks) (get_or picks place d)) → IsFirstWrong sizes picks place
wrong_next sizes picks place d place_in h not_next = record {
  inside = place_in;
  before = h;
  wrong = λ whole. not_next (from_front sizes picks (place + 1) whole.0 place d (omega arith) place_in);
}

-- and so is one too many
pub wrong_many : (sizes : List Size) (picks : List Pick) (place : ℕ) → place < length picks → place ≡ most_picks → IsTrace sizes (take place picks) → IsFirstWrong sizes picks place
wrong_many sizes picks place place_in most h = record {
  inside = place_in;
  before = h;
  wrong = λ whole. omega (arith, whole.1, most, length-take (place + 1) picks);
}

-- where one is wrong, all of them are no trace
pub wrong_is_none : (sizes : List Size) (picks : List Pick) (place : ℕ) → IsFirstWrong sizes picks place → ¬ (IsTrace sizes picks)
wrong_is_none sizes picks place h whole =
    h.wrong (
      to_front sizes picks (place + 1) (λ i d lt i_in. whole.0 i d i_in),
      omega (arith, whole.1, length-take (place + 1) picks),
    )

-- ---- a plan that grows
pub picks_push : (sizes : List Size) (picks : List Pick) (p : Pick) → ArePicks sizes picks → IsNextPick sizes picks p → ArePicks sizes (picks ++ p ∷ [])
picks_push sizes picks p h next i d i_in =
    elim (cases_lt i (length picks)) [
      | inl lt ↦
          subst (λ (ps : List Pick). IsNextPick sizes ps (get_or (picks ++ p ∷ []) i d)) (sym (take-append-le i picks (p ∷ []) (omega arith)))
          (subst (λ (x : Pick). IsNextPick sizes (take i picks) x) (sym (get_or_append_left picks (p ∷ []) d i lt)) (h i d lt))
      | inr le ↦
          let end : length picks ≡ i = omega (arith, length-append picks (p ∷ [])) in
          subst (λ (ps : List Pick). IsNextPick sizes ps (get_or (picks ++ p ∷ []) i d)) (sym (take_at picks (p ∷ []) i end))
          (subst (λ (x : Pick). IsNextPick sizes picks x) (sym (get_or_at picks p [] d i end)) next)
    ]

-- ---- a choice that is compared with the next one
pub same_next : (sizes : List Size) (picks : List Pick) (p q : Pick) → AreSizes sizes → IsNextPick sizes picks p → (p ≡ q) ↔ IsNextPick sizes picks q
same_next sizes picks p q are h = ((λ e. subst (λ (x : Pick). IsNextPick sizes picks x) e h), (λ k. one_next sizes picks p q are h k))
