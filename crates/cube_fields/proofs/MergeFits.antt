-- Cells that fit their forms, merged: each fits its form again; and the cell of one item.
use Rattle.std.proofs.Common.{◌≡◌, ◌≤◌, ◌<◌, ◌+◌, ◌*◌, ◌^◌, ◌++◌, ℕ, Bool, true, false, cond, List, [], ◌∷◌, length, length-append, Option, Some, None, refl, sym, ap, subst, arith, nat_cmp}
use Rattle.std.specs.Prelude.{ℤ, ◌+ℤ◌, pos, FitsSigned, int_lt, nat_abs}
use Rattle.std.specs.Int.{int_max, int_min, w64}
use Rattle.std.specs.Int.Signed.{nat_abs-le}
use Rattle.std.specs.List.{AllByRecursion}
use Rattle.std.specs.BTreeSet.{insert_key}
use Rattle.std.specs.Ordering.{match_ordering}
use Rattle.std.specs.declared.cmp.Ordering.{Ordering}
use Rattle.std.specs.declared.cmp.Ordering.TheVariants.{Less, Equal, Greater}
use Rattle.std.proofs.lemmas.Int.{ints}
use Rattle.cell_store.specs.Cells.{cell_of_items, merged_cell, no_cell}
use Rattle.cell_store.specs.declared.cell.Cell.{Cell}
use Rattle.cell_store.specs.declared.cell.Cell.TheVariants.{Count, Known, Sum, Min, Max, Distinct}
use Rattle.cell_store.specs.declared.cell.RowItem.{RowItem}
use Rattle.cube_fields.specs.Cells.{FitsExtreme, FitsForm, FitsId, FitsIds, FitsSum}
use Rattle.measure_laws.specs.declared.measure.MeasureForm.{MeasureForm}
use Rattle.measure_laws.specs.declared.measure.MeasureForm.TheVariants as measure
use Rattle.measure_laws.specs.Extremes.{Extreme, merged_greatest, merged_least, picked}
use Rattle.measure_laws.specs.Ids.{Ids, different, merged_ids}
use Rattle.measure_laws.specs.Kinds.{counts_rows, has_dictionary}
use Rattle.measure_laws.specs.Measures.{Summed, merged_sum, most_of_item}

-- ---- cells of any number of items, none included

abbrev FitsOption : Option ℤ → Type 0
FitsOption None = Unit {0}
FitsOption (Some v) = FitsSigned w64 v

abbrev HasExtreme : ℕ → Extreme → Type 0
HasExtreme n m = (m.items ≡ n) × FitsOption m.value

abbrev HasIds : ℕ → ℕ → Ids → Type 0
HasIds n size d = (d.items ≡ n) × ((length d.ids ≤ n) × AllByRecursion (FitsId size) d.ids)

abbrev pub HasForm : ℕ → ℕ → MeasureForm → Cell → Type 0
HasForm n size measure.Count (Count k) = k ≡ n
HasForm n size measure.Known (Known k) = k ≡ n
HasForm n size measure.Sum (Sum s) = FitsSum n s
HasForm n size measure.Min (Min m) = HasExtreme n m
HasForm n size measure.Max (Max m) = HasExtreme n m
HasForm n size measure.Distinct (Distinct d) = HasIds n size d
HasForm n size f c = ⊥

has_extreme : (n : ℕ) (m : Extreme) → FitsExtreme n m → HasExtreme n m
has_extreme n m h = (h.0, subst FitsOption (sym h.1.1.0) h.1.1.1)

pub has_form : (n size : ℕ) (f : MeasureForm) (c : Cell) → FitsForm n size f c → HasForm n size f c
has_form n size measure.Known (Known k) h = h
has_form n size measure.Sum (Sum s) h = h
has_form n size measure.Min (Min m) h = has_extreme n m h
has_form n size measure.Max (Max m) h = has_extreme n m h
has_form n size measure.Distinct (Distinct d) h = (h.0, (h.1.1.0, h.1.1.1))
has_form n size f c h = absurd h

pub has_none : (size : ℕ) (f : MeasureForm) → HasForm 0 size f (no_cell f)
has_none size measure.Count = refl
has_none size measure.Known = refl
has_none size measure.Sum = (refl, omega arith)
has_none size measure.Min = (refl, tt)
has_none size measure.Max = (refl, tt)
has_none size measure.Distinct = (refl, (omega arith, tt))

-- ---- numbers put in their places

pub put : {K : Type 0} (cmp : K → K → Ordering) (P : K → Type 0) (xs : List K) (x : K) → AllByRecursion P xs → P x → AllByRecursion P (insert_key cmp xs x)
put cmp P [] x all one = (one, tt)
put cmp P (y ∷ xs) x all one = by (cmp x y) (put cmp P xs x all.1 one) where
  by : (o : Ordering) → AllByRecursion P (insert_key cmp xs x) → AllByRecursion P (match_ordering o (x ∷ y ∷ xs) (y ∷ xs) (y ∷ insert_key cmp xs x))
  by Less rest = (one, all)
  by Equal rest = all
  by Greater rest = (all.0, rest)

put_more : (xs : List ℕ) (x : ℕ) → length (insert_key nat_cmp xs x) ≤ length xs + 1
put_more [] x = omega arith
put_more (y ∷ xs) x = by (nat_cmp x y) (put_more xs x) where
  by : (o : Ordering) → length (insert_key nat_cmp xs x) ≤ length xs + 1 → length (match_ordering o (x ∷ y ∷ xs) (y ∷ xs) (y ∷ insert_key nat_cmp xs x)) ≤ length (y ∷ xs) + 1
  by Less rest = omega arith
  by Equal rest = omega arith
  by Greater rest = omega (arith, rest)

put_some : (xs : List ℕ) (x : ℕ) → 0 < length (insert_key nat_cmp xs x)
put_some [] x = omega arith
put_some (y ∷ xs) x = by (nat_cmp x y) where
  by : (o : Ordering) → 0 < length (match_ordering o (x ∷ y ∷ xs) (y ∷ xs) (y ∷ insert_key nat_cmp xs x))
  by Less = omega arith
  by Equal = omega arith
  by Greater = omega arith

pub all_different : (P : ℕ → Type 0) (xs : List ℕ) → AllByRecursion P xs → AllByRecursion P (different xs)
all_different P [] all = tt
all_different P (x ∷ xs) all = put nat_cmp P (different xs) x (all_different P xs all.1) all.0

pub few_different : (xs : List ℕ) → length (different xs) ≤ length xs
few_different [] = omega arith
few_different (x ∷ xs) = omega (arith, put_more (different xs) x, few_different xs)

pub some_different : (xs : List ℕ) → 0 < length xs → 0 < length (different xs)
some_different [] lt = absurd (omega arith)
some_different (x ∷ xs) lt = put_some (different xs) x

all_joined : (P : ℕ → Type 0) (xs ys : List ℕ) → AllByRecursion P xs → AllByRecursion P ys → AllByRecursion P (xs ++ ys)
all_joined P [] ys a b = b
all_joined P (x ∷ xs) ys a b = (a.0, all_joined P xs ys a.1 b)

-- ---- cells merged

triangle : (x y : ℤ) → nat_abs (x +ℤ y) ≤ nat_abs x + nat_abs y
triangle x y = omega (arith, ints)

sums_fit : (n m : ℕ) (s t : Summed) → FitsSum n s → FitsSum m t → FitsSum (n + m) (merged_sum s t)
sums_fit n m s t h k = (omega (arith, h.0, k.0), omega (arith, triangle s.total t.total, h.1, k.1))

least_fits : (x y : ℤ) → FitsSigned w64 x → FitsSigned w64 y → FitsSigned w64 (int_min x y)
least_fits x y h k = by (int_lt y x) where
  by : (b : Bool) → FitsSigned w64 (cond b y x)
  by true = k
  by false = h

greatest_fits : (x y : ℤ) → FitsSigned w64 x → FitsSigned w64 y → FitsSigned w64 (int_max x y)
greatest_fits x y h k = by (int_lt y x) where
  by : (b : Bool) → FitsSigned w64 (cond b x y)
  by true = h
  by false = k

-- the value that is picked of one that is there and another that may be
picked_fits : (pick : ℤ → ℤ → ℤ) → ((x y : ℤ) → FitsSigned w64 x → FitsSigned w64 y → FitsSigned w64 (pick x y)) → (a b : Option ℤ) (x : ℤ) → a ≡ Some x → FitsSigned w64 x → FitsOption b
    → (v : ℤ) × ((picked pick a b ≡ Some v) × FitsSigned w64 v)
picked_fits pick keeps None b x e h k = absurd cc
picked_fits pick keeps (Some z) None x e h k = (x, (e, h))
picked_fits pick keeps (Some z) (Some y) x e h k = let same : z ≡ x = cc in (pick x y, (ap (λ n. Some (pick n y)) same, keeps x y h k))

leasts_fit : (n m : ℕ) (s t : Extreme) → FitsExtreme n s → HasExtreme m t → FitsExtreme (n + m) (merged_least s t)
leasts_fit n m s t h k = (omega (arith, h.0, k.0), picked_fits int_min least_fits s.value t.value h.1.0 h.1.1.0 h.1.1.1 k.1)

greatests_fit : (n m : ℕ) (s t : Extreme) → FitsExtreme n s → HasExtreme m t → FitsExtreme (n + m) (merged_greatest s t)
greatests_fit n m s t h k = (omega (arith, h.0, k.0), picked_fits int_max greatest_fits s.value t.value h.1.0 h.1.1.0 h.1.1.1 k.1)

ids_fit : (n m size : ℕ) (s t : Ids) → FitsIds n size s → HasIds m size t → FitsIds (n + m) size (merged_ids s t)
ids_fit n m size s t h k =
    let whole = length-append s.ids t.ids in (
      omega (arith, h.0, k.0),
      (
        some_different (s.ids ++ t.ids) (omega (arith, whole, h.1.0)),
        (
          omega (arith, few_different (s.ids ++ t.ids), whole, h.1.1.0, k.1.0),
          all_different (FitsId size) (s.ids ++ t.ids) (all_joined (FitsId size) s.ids t.ids h.1.1.1 k.1.1),
        ),
      ),
    )

merge_known : (n m size a : ℕ) (b : Cell) → a ≡ n → HasForm m size measure.Known b → FitsForm (n + m) size measure.Known (merged_cell (Known a) b)
merge_known n m size a (Known c) h k = λ i. h i + k i
merge_known n m size a b h k = absurd k

merge_sum : (n m size : ℕ) (s : Summed) (b : Cell) → FitsSum n s → HasForm m size measure.Sum b → FitsForm (n + m) size measure.Sum (merged_cell (Sum s) b)
merge_sum n m size s (Sum t) h k = sums_fit n m s t h k
merge_sum n m size s b h k = absurd k

merge_least : (n m size : ℕ) (s : Extreme) (b : Cell) → FitsExtreme n s → HasForm m size measure.Min b → FitsForm (n + m) size measure.Min (merged_cell (Min s) b)
merge_least n m size s (Min t) h k = leasts_fit n m s t h k
merge_least n m size s b h k = absurd k

merge_greatest : (n m size : ℕ) (s : Extreme) (b : Cell) → FitsExtreme n s → HasForm m size measure.Max b → FitsForm (n + m) size measure.Max (merged_cell (Max s) b)
merge_greatest n m size s (Max t) h k = greatests_fit n m s t h k
merge_greatest n m size s b h k = absurd k

merge_ids : (n m size : ℕ) (s : Ids) (b : Cell) → FitsIds n size s → HasForm m size measure.Distinct b → FitsForm (n + m) size measure.Distinct (merged_cell (Distinct s) b)
merge_ids n m size s (Distinct t) h k = ids_fit n m size s t h k
merge_ids n m size s b h k = absurd k

pub merge_forms : (n m size : ℕ) (f : MeasureForm) (a b : Cell) → FitsForm n size f a → HasForm m size f b → FitsForm (n + m) size f (merged_cell a b)
merge_forms n m size measure.Known (Known a) b h k = merge_known n m size a b h k
merge_forms n m size measure.Sum (Sum s) b h k = merge_sum n m size s b h k
merge_forms n m size measure.Min (Min s) b h k = merge_least n m size s b h k
merge_forms n m size measure.Max (Max s) b h k = merge_greatest n m size s b h k
merge_forms n m size measure.Distinct (Distinct s) b h k = merge_ids n m size s b h k
merge_forms n m size f a b h k = absurd h

-- ---- the cell of one item

sum_small : (z : ℤ) → nat_abs z ≤ 2 ^ 63 → nat_abs (z +ℤ pos 0) ≤ 1 * most_of_item
sum_small z h = let same : z +ℤ pos 0 ≡ z = omega (arith, ints) in omega (arith, ap nat_abs same, h)

pub alone_fits : (size : ℕ) (f : MeasureForm) (item : RowItem) → counts_rows f ≡ false → FitsSigned w64 item.number → (has_dictionary f ≡ true → FitsId size item.id) → FitsForm 1 size f (cell_of_items f (item ∷ []))
alone_fits size measure.Count item not_rows number id = absurd cc
alone_fits size measure.Known item not_rows number id = refl
alone_fits size measure.Sum item not_rows number id = (refl, sum_small item.number (nat_abs-le item.number number.sfits))
alone_fits size measure.Min item not_rows number id = (refl, (item.number, (refl, number)))
alone_fits size measure.Max item not_rows number id = (refl, (item.number, (refl, number)))
alone_fits size measure.Distinct item not_rows number id = (refl, (omega arith, (omega arith, (id refl, tt))))
