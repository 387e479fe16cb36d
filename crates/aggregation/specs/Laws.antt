-- The laws that all building of cuboids rests on.
use Rattle.std.specs.Prelude.{◌≡◌, List, [], map}
use Rattle.std.specs.declared.cmp.Ordering.{Ordering}
use Rattle.std.specs.declared.cmp.Ordering.TheVariants.{Equal}
use Rattle.std.specs.List.{flat_map}
use Rattle.std.specs.List.Sorted.{IsStrictlySortedBy}
use Rattle.aggregation.specs.Groups.{aggregate, gather}

-- an order in which only equal values tie
abbrev pub IsExact : {K : Type 0} → (K → K → Ordering) → Type 0
IsExact {K} cmp = (x y : K) → cmp x y ≡ Equal → x ≡ y

-- gathering the aggregate of rows by a part of its keys gives the aggregate of the rows by that part
abbrev pub GatherOfAggregate : {K J I M : Type 0} (R : Type 0) → (K → K → Ordering) → (J → J → Ordering) → (List I → M) → (M → M → M) → Type 0
GatherOfAggregate {K} {J} {I} R by_key by_part of merge =
    (part : K → J) (key : R → K) (item : R → I) (rows : List R)
    → gather by_part part (of []) merge (aggregate by_key key item of rows) ≡ aggregate by_part (λ r. part (key r)) item of rows

-- gathering the aggregates of lists of rows by a part of their keys gives the aggregate of all their rows by that part
abbrev pub GatherOfAggregates : {K J I M : Type 0} (R : Type 0) → (K → K → Ordering) → (J → J → Ordering) → (List I → M) → (M → M → M) → Type 0
GatherOfAggregates {K} {J} {I} R by_key by_part of merge =
    (part : K → J) (key : R → K) (item : R → I) (lists : List (List R))
    → gather by_part part (of []) merge (flat_map (aggregate by_key key item of) lists) ≡ aggregate by_part (λ r. part (key r)) item of (flat_map (λ rows. rows) lists)

-- the keys of an aggregate strictly rise
abbrev pub KeysRise : {K I M : Type 0} (R : Type 0) → (K → K → Ordering) → (List I → M) → Type 0
KeysRise {K} {I} R cmp of =
    (key : R → K) (item : R → I) (rows : List R)
    → IsStrictlySortedBy cmp (map (λ c. c.0) (aggregate cmp key item of rows))
