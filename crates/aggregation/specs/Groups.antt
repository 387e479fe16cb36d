-- Rows in groups: for each distinct key, in order, what the rows with this key come to.
use Rattle.std.specs.Prelude.{List, [], ◌∷◌, map}
use Rattle.std.specs.declared.cmp.Ordering.{Ordering}
use Rattle.std.specs.BTreeSet.{insert_key}
use Rattle.std.specs.List.{filter}
use Rattle.std.specs.Ordering.{eq_by_cmp}

-- the distinct keys, in order: each is put in its place unless an equal one is there
abbrev pub distinct : {K : Type 0} → (K → K → Ordering) → List K → List K
distinct cmp [] = []
distinct cmp (k ∷ ks) = insert_key cmp (distinct cmp ks) k

-- the values of the rows with the key
abbrev pub values_at : {K R V : Type 0} → (K → K → Ordering) → (R → K) → (R → V) → List R → K → List V
values_at cmp key value rows k = map value (filter (λ r. eq_by_cmp cmp k (key r)) rows)

-- for each distinct key, in order, what the values of its rows come to
abbrev pub grouped : {K R V M : Type 0} → (K → K → Ordering) → (R → K) → (R → V) → (List V → M) → List R → List (K × M)
grouped cmp key value combine rows = map (λ k. (k, combine (values_at cmp key value rows k))) (distinct cmp (map key rows))

-- the aggregate of rows: for each distinct key the measure of the items of its rows
abbrev pub aggregate : {K R I M : Type 0} → (K → K → Ordering) → (R → K) → (R → I) → (List I → M) → List R → List (K × M)
aggregate cmp key item of rows = grouped cmp key item of rows

-- the measures of parts, merged
abbrev pub merged_all : {M : Type 0} → M → (M → M → M) → List M → M
merged_all zero merge [] = zero
merged_all zero merge (m ∷ ms) = merge m (merged_all zero merge ms)

-- cells gathered by a part of their keys: for each distinct part the merge of the cells that have it
abbrev pub gather : {K J M : Type 0} → (J → J → Ordering) → (K → J) → M → (M → M → M) → List (K × M) → List (J × M)
gather cmp part zero merge cells = grouped cmp (λ c. part c.0) (λ c. c.1) (merged_all zero merge) cells
