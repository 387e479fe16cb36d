-- What a binary search finds among entries whose keys rise.
use Rattle.std.proofs.Common.{◌≡◌, ◌+◌, ℕ, List, get_or, sym, ap, ◌∙◌, Some, None, slice_get, arith}
use Rattle.std.specs.Cmp.{eq_by_cmp_equiv}
use Rattle.std.specs.List.{HoldsAt}
use Rattle.std.specs.List.Sorted.{IsNonDecreasingBy, IsPartitionPoint, IsSortedBy}
use Rattle.std.specs.Map.{keys_of}
use Rattle.std.specs.Ordering.{is_lt, ordering_index, ordering_reverse}
use Rattle.std.specs.declared.cmp.Ordering.TheVariants.{Less, Equal, Greater}
use Rattle.std.proofs.lemmas.List.{get_or-map, length-map}
use Rattle.std.proofs.lemmas.List.Sorted.{searchable_from_sorted}
use Rattle.std.proofs.lemmas.Map.Entries.{lookup_at_gap, lookup_from_place}
use Rattle.std.proofs.lemmas.Map.Keys.{IsDistinct-from_sorted, Less-from_sorted}
use Rattle.std.proofs.lemmas.Option.{get_or_from_slice_get, slice_get_within}
use Rattle.cube_val.proofs.OrderFacts.{row_cmp_exact}
use Rattle.cube_val.specs.Order.{row_cmp}
use Rattle.cube_val.specs.OrderLaws.{row_cmp_total}
use Rattle.cube_val.specs.declared.val.Val.{Val}
use Rattle.lookup_snap.specs.Snaps.{IsRising, value_in}

abbrev key_in : List Val × List Val → List Val
key_in entry = entry.0

-- keys that rise are in order
sorted_from_rising : (entries : List (List Val × List Val)) → IsRising entries → IsSortedBy (λ a b. is_lt (row_cmp a.0 b.0)) entries
sorted_from_rising entries rising k d _ small =
    let a = get_or entries k d in
    let b = get_or entries (k + 1) d in
    let size = length-map entries key_in in
    let low : get_or (keys_of entries) k d.0 ≡ a.0 = get_or-map key_in entries k d d.0 (omega arith) in
    let high : get_or (keys_of entries) (k + 1) d.0 ≡ b.0 = get_or-map key_in entries (k + 1) d d.0 small in
    let less : row_cmp a.0 b.0 ≡ Less = rw (low, high) at (Less-from_sorted row_cmp (keys_of entries) k (k + 1) d.0 rising (omega arith) (omega arith)) in
    ap is_lt (row_cmp_total.antisymm b.0 a.0 ∙ ap ordering_reverse less)

-- so the comparisons with a key rise, as a binary search asks
pub comparisons_rise : (entries : List (List Val × List Val)) → IsRising entries → (key : List Val) → IsNonDecreasingBy (λ entry. ordering_index (row_cmp entry.0 key)) entries
comparisons_rise entries rising key = searchable_from_sorted row_cmp_total key_in entries key (sorted_from_rising entries rising)

-- the entry that ties with a key has its values
pub value_from_hit : (entries : List (List Val × List Val)) → IsRising entries → (key : List Val) (i : ℕ) (entry : List Val × List Val) → slice_get entries i ≡ Some entry
    → HoldsAt (λ e. row_cmp e.0 key ≡ Equal) entries i → Some entry.1 ≡ value_in entries key
value_from_hit entries rising key i entry there tied =
    let here : get_or entries i entry ≡ entry = get_or_from_slice_get entries i entry entry there in
    let same : entry.0 ≡ key = row_cmp_exact entry.0 key (rw here at (tied entry)) in
    let own : value_in entries entry.0 ≡ Some entry.1 = lookup_from_place (eq_by_cmp_equiv row_cmp_total) entries i entry.0 entry.1 (IsDistinct-from_sorted row_cmp (keys_of entries) rising) there in
    sym (rw same at own)

-- between the keys below a key and those above it, it isn't there
pub none_from_gap : (entries : List (List Val × List Val)) → IsRising entries → (key : List Val) (i : ℕ)
    → IsPartitionPoint (λ e. row_cmp e.0 key ≡ Less) (λ e. row_cmp e.0 key ≡ Greater) entries i → None ≡ value_in entries key
none_from_gap entries rising key i parted =
    let flipped = λ (e : List Val × List Val). row_cmp_total.antisymm key e.0 in
    sym
    (lookup_at_gap row_cmp_total key entries i rising
    (λ j e before there. flipped e ∙ ap ordering_reverse (rw (get_or_from_slice_get entries j e e there) at (parted.0 j e (omega arith) before)))
    (λ e there. flipped e ∙ ap ordering_reverse (rw (get_or_from_slice_get entries i e e there) at (parted.1 i e (omega arith) (slice_get_within entries i e there)))))
