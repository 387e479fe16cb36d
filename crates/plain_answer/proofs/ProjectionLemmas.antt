-- Facts on projections.
use Rattle.std.proofs.Common.{◌≡◌, ◌+◌, ◌++◌, ◌∷◌, ◌∙◌, [], ℕ, Bool, true, false, cond, List, ap, arith, map, sym}
use Rattle.std.specs.List.{filter, range_with_len}
use Rattle.std.proofs.lemmas.List.{append-nil, map-id}
use Rattle.std.proofs.lemmas.List.Elements.{filter-append}
use Rattle.std.proofs.lemmas.List.FromFn.{map-range_with_len_more}
use Rattle.aggregation.specs.Groups.{distinct}
use Rattle.agg_group.specs.declared.mask.Mask.{Mask}
use Rattle.cube_val.specs.declared.val.Val.{Val}
use Rattle.cube_val.specs.Order.{row_cmp}
use Rattle.plain_answer.specs.declared.answer.PlainRow.{PlainRow}
use Rattle.plain_answer.specs.declared.ask.Agg.{Agg}
use Rattle.plain_answer.specs.Answers.{group_at, key_of}
use Rattle.plain_answer.specs.Projections.{aggregate_by, columns_of}
use Rattle.plain_answer.proofs.GroupLemmas.{groups_of_keys}

-- one more number is tried
range_more : (d : ℕ) → range_with_len 0 (d + 1) ≡ range_with_len 0 d ++ d ∷ []
range_more d =
    sym (map-id (range_with_len 0 (d + 1))) ∙ map-range_with_len_more (λ x. x) 0 d d (omega arith) ∙ ap (λ l. l ++ d ∷ []) (map-id (range_with_len 0 d))

pub filter_one_more : (p : ℕ → Bool) (d : ℕ) (b : Bool) → p d ≡ b → filter p (range_with_len 0 (d + 1)) ≡ filter p (range_with_len 0 d) ++ cond b (d ∷ []) []
filter_one_more p d b e =
    ap (filter p) (range_more d) ∙ filter-append p (range_with_len 0 d) (d ∷ []) ∙ ap (λ t. filter p (range_with_len 0 d) ++ cond t (d ∷ []) []) e

-- the groups at the distinct projections are the aggregate
pub groups_at_projections : (dims : Mask) (aggs : List Agg) (rows : List (List Val)) (columns columns' : List ℕ) (rows1 rows2 keys : List (List Val)) (groups : List PlainRow)
    → columns ≡ columns_of dims → columns' ≡ columns_of dims → rows1 ≡ rows → rows2 ≡ rows
    → keys ≡ distinct row_cmp (map (key_of columns) rows1) → groups ≡ map (group_at columns' aggs rows2) keys
    → groups ≡ aggregate_by dims aggs rows
groups_at_projections dims aggs rows columns columns' rows1 rows2 keys groups these these' all all' distinct_keys at =
    at ∙ (λ i. map (group_at (these' i) aggs (all' i)) keys)
    ∙ ap (map (group_at (columns_of dims) aggs rows)) (distinct_keys ∙ (λ i. distinct row_cmp (map (key_of (these i)) (all i))))
    ∙ groups_of_keys (columns_of dims) aggs rows (distinct row_cmp (map (key_of (columns_of dims)) rows))
