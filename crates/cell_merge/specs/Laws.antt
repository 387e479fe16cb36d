-- What a merge is of the rows.
use Rattle.std.specs.Prelude.{◌≡◌, ℕ, List, All, length, map}
use Rattle.std.specs.List.{flat_map}
use Rattle.std.specs.List.Sorted.{IsStrictlySortedBy}
use Rattle.agg_group.specs.declared.mask.Mask.{Mask}
use Rattle.cell_store.specs.Cells.{CellRows}
use Rattle.cube_val.specs.declared.val.Val.{Val}
use Rattle.cube_val.specs.Order.{val_cmp}
use Rattle.dim_dictionary.specs.Dictionaries.{KeepsValues}
use Rattle.layer_builder.specs.Base.{dict_at}
use Rattle.layer_builder.specs.Cuboids.{IsCuboid}
use Rattle.layer_builder.specs.Meanings.{IsNumbered, meaning, value_rows}
use Rattle.plain_answer.specs.declared.ask.Agg.{Agg}
use Rattle.plain_answer.specs.Kinds.{form_of_kind}
use Rattle.cell_merge.specs.Merges.{IsMerge}
use Rattle.cell_merge.specs.Renumbered.{remap_at}

-- a part of a merge: rows, their dictionaries, the table that is their cuboid, and the new numbers
pub record Part : Type 0 where
  pub flat : List (List Val)
  pub dicts : List (List Val)
  pub table : CellRows
  pub remaps : List (List ℕ)

-- the part's table is the cuboid of its rows, its dictionaries have their values, and each value has at its new number in the merged
-- dictionaries what it was
pub record IsPart (aggs : List Agg) (dims : Mask) (merged : List (List Val)) (part : Part) : Type 0 where
  pub cuboid : IsCuboid aggs part.dicts part.flat dims part.table
  pub numbered : IsNumbered aggs part.dicts dims part.flat
  pub dicts : length part.dicts ≡ length merged
  pub remaps : length part.remaps ≡ length merged
  pub keeps : (place : ℕ) → KeepsValues (dict_at merged place) (dict_at part.dicts place) (remap_at part.remaps place)

-- the merge of cuboids of rows is the cuboid of all rows over the merged dictionaries
abbrev pub MergedIsCuboid : Type 0
MergedIsCuboid =
    (aggs : List Agg) (dims : Mask) (merged : List (List Val)) (parts : List Part) (table : CellRows)
    → ((place : ℕ) → IsStrictlySortedBy val_cmp (dict_at merged place)) → All (IsPart aggs dims merged) parts
    → table.mask ≡ dims → table.forms ≡ map (λ agg. form_of_kind agg.kind) aggs
    → IsMerge (map (λ part. part.remaps) parts) (map (λ part. part.table) parts) table
    → IsCuboid aggs merged (flat_map (λ part. part.flat) parts) dims table

-- read over the merged dictionaries, the merge of cuboids of rows is the aggregate of all rows in values
abbrev pub MergedMeansRows : Type 0
MergedMeansRows =
    (aggs : List Agg) (dims : Mask) (merged : List (List Val)) (parts : List Part) (table : CellRows)
    → ((place : ℕ) → IsStrictlySortedBy val_cmp (dict_at merged place)) → All (IsPart aggs dims merged) parts
    → table.mask ≡ dims → table.forms ≡ map (λ agg. form_of_kind agg.kind) aggs
    → IsMerge (map (λ part. part.remaps) parts) (map (λ part. part.table) parts) table
    → meaning aggs merged dims table.rows ≡ value_rows aggs dims (flat_map (λ part. part.flat) parts)
