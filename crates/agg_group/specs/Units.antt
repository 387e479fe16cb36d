-- A group's masks, made from its units. Its rules are disjoint, so each unit is chosen for itself: a front of a hierarchy, all of a joint or none, a dimension without a rule or not.
use Rattle.std.specs.Prelude.{ℕ, ◌==◌, ◌^◌, bit_or, Bool, true, not, nat_le, if◌then◌else◌, List, [], ◌∷◌, ◌++◌, map, filter, Option, Some, None}
use Rattle.std.specs.List.{list_any}
use Rattle.agg_group.specs.declared.mask.Mask.{Mask}
use Rattle.agg_group.specs.Sets.{is_among}
use Rattle.agg_group.specs.Mask.{count_of}
use Rattle.agg_group.specs.Rules.{Rules, rule_lists}

-- the dimensions of either mask
abbrev pub joined : Mask → Mask → Mask
joined a b = record { 0 = bit_or a.0 b.0 }

-- the mask of these dimensions
abbrev pub mask_of : List ℕ → Mask
mask_of [] = record { 0 = 0 }
mask_of (d ∷ ds) = joined (record { 0 = 2 ^ d }) (mask_of ds)

-- A unit is a list of steps, each some dimensions: what a set takes of it is a front of the steps. A hierarchy has a step for each member,
abbrev pub members : List ℕ → List (List ℕ)
members ds = map (λ d. d ∷ []) ds

-- a joint is one step,
abbrev pub whole : List ℕ → List (List ℕ)
whole ds = ds ∷ []

-- and so is an included dimension that no rule has.
abbrev pub is_free : Rules → ℕ → Bool
is_free g d = not (list_any (is_among d) (rule_lists g))

abbrev pub free_dimensions : Rules → List ℕ
free_dimensions g = filter (is_free g) g.includes

abbrev pub units_of : Rules → List (List (List ℕ))
units_of g = map members g.hierarchies ++ (map whole g.joints ++ map (λ d. whole (d ∷ [])) (free_dimensions g))

-- units in masks
abbrev pub mask_units : List (List (List ℕ)) → List (List Mask)
mask_units units = map (map mask_of) units

-- the mask has at most so many dimensions
abbrev pub is_capped : Option ℕ → Mask → Bool
is_capped None m = true
is_capped (Some most) m = nat_le (count_of m) most

-- the masks that have, beside m, a front of the steps but the empty one, each gone on with by `rest`; none is above the cap
abbrev pub with_fronts : (Mask → List Mask) → Option ℕ → List Mask → Mask → List Mask
with_fronts rest cap [] m = []
with_fronts rest cap (step ∷ steps) m =
    if is_capped cap (joined m step) then rest (joined m step) ++ with_fronts rest cap steps (joined m step) else []

-- the mask alone; the empty set is no cuboid
abbrev pub unless_empty : Mask → List Mask
unless_empty m = if m.0 == 0 then [] else m ∷ []

-- the masks that have, beside m, a front of each unit
abbrev pub masks_with : Option ℕ → List (List Mask) → Mask → List Mask
masks_with cap [] m = unless_empty m
masks_with cap (unit ∷ units) m = masks_with cap units m ++ with_fronts (masks_with cap units) cap unit m

-- the masks of the cuboids that a group gives: the mandatory dimensions with a front of each unit
unfoldable pub group_masks : Rules → List Mask
group_masks g = if is_capped g.cap (mask_of g.mandatory) then masks_with g.cap (mask_units (units_of g)) (mask_of g.mandatory) else []
