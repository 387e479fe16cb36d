-- The faults of an aggregation group, each by a definition of its own.
use Rattle.std.specs.Prelude.{◌≡◌, ℕ, Bool, true, false, ◌||◌, not, nat_lt, List, [], ◌∷◌, length, count_by, Option, Some, None}
use Rattle.std.specs.List.{list_any}
use Rattle.agg_group.specs.declared.fault.GroupFault.{GroupFault}
use Rattle.agg_group.specs.declared.fault.GroupFault.TheVariants as fault
use Rattle.agg_group.specs.Sets.{dimensions, is_among}
use Rattle.agg_group.specs.Limits.{most_dimensions}
use Rattle.agg_group.specs.Rules.{Rules, rule_lists, HasDimensions}

-- there are no includes
abbrev pub lacks_includes : Rules → Bool
lacks_includes g = nat_lt (length g.includes) 1

-- a number stands twice in the list
abbrev pub has_repeat : List ℕ → Bool
has_repeat [] = false
has_repeat (d ∷ ds) = is_among d ds || has_repeat ds

-- .. in one of the group's lists
abbrev pub repeats : Rules → Bool
repeats g = has_repeat g.includes || has_repeat g.mandatory || list_any has_repeat g.hierarchies || list_any has_repeat g.joints

-- a rule has a dimension that isn't included
abbrev pub has_other : List ℕ → List ℕ → Bool
has_other includes ds = list_any (λ d. not (is_among d includes)) ds

abbrev pub strays : Rules → Bool
strays g = has_other g.includes g.mandatory || list_any (has_other g.includes) g.hierarchies || list_any (has_other g.includes) g.joints

-- more than one of the rules has the dimension
abbrev pub is_in_two : List (List ℕ) → ℕ → Bool
is_in_two rules d = nat_lt 1 (count_by (is_among d) rules)

-- .. and this is so of some dimension
unfoldable pub overlaps : Rules → Bool
overlaps g = list_any (is_in_two (rule_lists g)) (dimensions 64)

-- a hierarchy or a joint has fewer than two dimensions
abbrev pub is_short : List ℕ → Bool
is_short ds = nat_lt (length ds) 2

abbrev pub has_short : Rules → Bool
has_short g = list_any is_short g.hierarchies || list_any is_short g.joints

-- the cap is none of the numbers of dimensions that a cube may have
abbrev pub is_bad_cap : Option ℕ → Bool
is_bad_cap None = false
is_bad_cap (Some most) = nat_lt most 1 || nat_lt most_dimensions most

-- the first that applies
abbrev pub otherwise : Bool → GroupFault → Option GroupFault → Option GroupFault
otherwise true f rest = Some f
otherwise false f rest = rest

abbrev pub group_fault : Rules → Option GroupFault
group_fault g =
    otherwise (lacks_includes g) fault.EmptyIncludes (otherwise (repeats g) fault.Repeat
    (otherwise (strays g) fault.NotIncluded (otherwise (overlaps g) fault.TwoRules
    (otherwise (has_short g) fault.Short (otherwise (is_bad_cap g.cap) fault.BadCap None)))))

-- the lists of a group: below 64, and free of every fault
pub record IsSound (g : Rules) : Type 0 where
  pub faultless : group_fault g ≡ None
  pub fits : HasDimensions g
