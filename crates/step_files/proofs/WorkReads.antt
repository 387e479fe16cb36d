-- What is read of the work of each kind of step, once its fields have been read.
use Rattle.std.proofs.Common.{◌≡◌, ℕ, List, Option, Some, subst}
use Rattle.byte_frame.specs.Outcomes.{Fails}
use Rattle.byte_frame.specs.Reading.{as_at, then_at}
use Rattle.byte_frame.specs.declared.fault.ReadError.{ReadError}
use Rattle.cell_store.specs.Cells.{CellRows}
use Rattle.cube_val.specs.declared.val.Val.{Val}
use Rattle.range_list.specs.Ranges.{Interval}
use Rattle.step_codec.specs.Layouts.{row_limit, size_limit}
use Rattle.step_codec.specs.Reading.{all_loaded_at, holding_at, layer_at}
use Rattle.step_codec.specs.declared.layout.Layout.{Layout}
use Rattle.step_fields.specs.Reading.{range_at, rows_at}
use Rattle.step_fields.specs.declared.column.Column.{Column}
use Rattle.step_files.specs.Cubes.{layout_in}
use Rattle.step_files.specs.Tasks.{base_from, base_work_at, desc_at, dict_from, dict_work_at, flat_from, flat_work_at, layer_from, layer_work_at, rows_and_dicts_at}
use Rattle.step_files.specs.declared.task.Task.TheVariants.{Flat, Dict, Base, Layer}
use Rattle.step_files.proofs.ReadFacts.{as_fails, as_gives, first_fails, second_fails, then_gives}

-- ---- readers behind a descriptor

abbrev after_flat : List ℕ → List ℕ → Option ((Interval × List (List (List Val))) × List ℕ)
after_flat desc = then_at range_at (λ _. all_loaded_at (layout_in desc))

abbrev after_dict : List ℕ → List ℕ → Option (List (List Val) × List ℕ)
after_dict desc = rows_at (layout_in desc).flat row_limit

abbrev after_base : List ℕ → List ℕ → Option ((List (List Val) × List (List Val)) × List ℕ)
after_base desc = rows_and_dicts_at (layout_in desc)

abbrev after_layer : List ℕ → List ℕ → Option ((ℕ × (List ℕ × List CellRows)) × List ℕ)
after_layer desc = layer_at (layout_in desc)

-- ---- rows and dictionaries

module _ (l : Layout) (bytes : List ℕ) (columns : List Column) (same : columns ≡ l.flat) where
  pub no_base_rows : (e : ReadError) → Fails e (rows_at columns row_limit bytes) → Fails e (rows_and_dicts_at l bytes)
  no_base_rows e h = first_fails (rows_at l.flat row_limit) (λ flat. holding_at l size_limit flat) bytes e (subst (λ (cs : List Column). Fails e (rows_at cs row_limit bytes)) same h)

  module _ (flat rows : List (List Val)) (are : rows ≡ flat) (more : List ℕ) (first : rows_at columns row_limit bytes ≡ Some (flat, more)) where
    own_rows : rows_at l.flat row_limit bytes ≡ Some (flat, more)
    own_rows = subst (λ (cs : List Column). rows_at cs row_limit bytes ≡ Some (flat, more)) same first

    pub no_base_dicts : (e : ReadError) → Fails e (holding_at l size_limit rows more) → Fails e (rows_and_dicts_at l bytes)
    no_base_dicts e h =
        second_fails (rows_at l.flat row_limit) (λ flat. holding_at l size_limit flat) bytes flat more e own_rows (subst (λ (r : List (List Val)). Fails e (holding_at l size_limit r more)) are h)

    pub base_rows_given : (dicts : List (List Val)) (rest : List ℕ) → holding_at l size_limit rows more ≡ Some (dicts, rest) → rows_and_dicts_at l bytes ≡ Some ((flat, dicts), rest)
    base_rows_given dicts rest h =
        then_gives (rows_at l.flat row_limit) (λ flat. holding_at l size_limit flat) bytes flat more dicts rest own_rows (subst (λ (r : List (List Val)). holding_at l size_limit r more ≡ Some (dicts, rest)) are h)

-- ---- no descriptor

pub no_flat_desc : (bytes : List ℕ) (e : ReadError) → Fails e (desc_at bytes) → Fails e (as_at flat_from flat_work_at bytes)
unfolding flat_work_at
no_flat_desc bytes e h = as_fails flat_from flat_work_at bytes e (first_fails desc_at after_flat bytes e h)

pub no_dict_desc : (bytes : List ℕ) (e : ReadError) → Fails e (desc_at bytes) → Fails e (as_at dict_from dict_work_at bytes)
unfolding dict_work_at
no_dict_desc bytes e h = as_fails dict_from dict_work_at bytes e (first_fails desc_at after_dict bytes e h)

pub no_base_desc : (bytes : List ℕ) (e : ReadError) → Fails e (desc_at bytes) → Fails e (as_at base_from base_work_at bytes)
unfolding base_work_at
no_base_desc bytes e h = as_fails base_from base_work_at bytes e (first_fails desc_at after_base bytes e h)

pub no_layer_desc : (bytes : List ℕ) (e : ReadError) → Fails e (desc_at bytes) → Fails e (as_at layer_from layer_work_at bytes)
unfolding layer_work_at
no_layer_desc bytes e h = as_fails layer_from layer_work_at bytes e (first_fails desc_at after_layer bytes e h)

module _ (bytes left desc : List ℕ) (first : desc_at bytes ≡ Some (desc, left)) where
  -- ---- flat

  pub no_flat_range : (e : ReadError) → Fails e (range_at left) → Fails e (as_at flat_from flat_work_at bytes)
  unfolding flat_work_at
  no_flat_range e h =
      as_fails flat_from flat_work_at bytes e (second_fails desc_at after_flat bytes desc left e first (first_fails range_at (λ _. all_loaded_at (layout_in desc)) left e h))

  module _ (l : Layout) (same : l ≡ layout_in desc) (range : Interval) (more : List ℕ) (second : range_at left ≡ Some (range, more)) where
    pub no_flat_tables : (e : ReadError) → Fails e (all_loaded_at l more) → Fails e (as_at flat_from flat_work_at bytes)
    unfolding flat_work_at
    no_flat_tables e h =
        let own : Fails e (all_loaded_at (layout_in desc) more) = subst (λ (k : Layout). Fails e (all_loaded_at k more)) same h in
        as_fails flat_from flat_work_at bytes e
        (second_fails desc_at after_flat bytes desc left e first (second_fails range_at (λ _. all_loaded_at (layout_in desc)) left range more e second own))

    pub flat_given : (tables : List (List (List Val))) (rest : List ℕ) → all_loaded_at l more ≡ Some (tables, rest) → as_at flat_from flat_work_at bytes ≡ Some (Flat desc range tables, rest)
    unfolding flat_work_at
    flat_given tables rest h =
        let own : all_loaded_at (layout_in desc) more ≡ Some (tables, rest) = subst (λ (k : Layout). all_loaded_at k more ≡ Some (tables, rest)) same h in
        as_gives flat_from flat_work_at bytes (desc, (range, tables)) rest
        (then_gives desc_at after_flat bytes desc left (range, tables) rest first (then_gives range_at (λ _. all_loaded_at (layout_in desc)) left range more tables rest second own))

  module _ (columns : List Column) (same : columns ≡ (layout_in desc).flat) where
    -- ---- dict

    pub no_dict_rows : (e : ReadError) → Fails e (rows_at columns row_limit left) → Fails e (as_at dict_from dict_work_at bytes)
    unfolding dict_work_at
    no_dict_rows e h =
        let own : Fails e (after_dict desc left) = subst (λ (cs : List Column). Fails e (rows_at cs row_limit left)) same h in
        as_fails dict_from dict_work_at bytes e (second_fails desc_at after_dict bytes desc left e first own)

    pub dict_given : (flat : List (List Val)) (rest : List ℕ) → rows_at columns row_limit left ≡ Some (flat, rest) → as_at dict_from dict_work_at bytes ≡ Some (Dict desc flat, rest)
    unfolding dict_work_at
    dict_given flat rest h =
        let own : after_dict desc left ≡ Some (flat, rest) = subst (λ (cs : List Column). rows_at cs row_limit left ≡ Some (flat, rest)) same h in
        as_gives dict_from dict_work_at bytes (desc, flat) rest (then_gives desc_at after_dict bytes desc left flat rest first own)

  -- ---- base

  module _ (l : Layout) (same : l ≡ layout_in desc) where
    pub no_base_work : (e : ReadError) → Fails e (rows_and_dicts_at l left) → Fails e (as_at base_from base_work_at bytes)
    unfolding base_work_at
    no_base_work e h =
        let own : Fails e (after_base desc left) = subst (λ (k : Layout). Fails e (rows_and_dicts_at k left)) same h in
        as_fails base_from base_work_at bytes e (second_fails desc_at after_base bytes desc left e first own)

    pub base_given : (flat dicts : List (List Val)) (rest : List ℕ) → rows_and_dicts_at l left ≡ Some ((flat, dicts), rest) → as_at base_from base_work_at bytes ≡ Some (Base desc flat dicts, rest)
    unfolding base_work_at
    base_given flat dicts rest h =
        let own : after_base desc left ≡ Some ((flat, dicts), rest) = subst (λ (k : Layout). rows_and_dicts_at k left ≡ Some ((flat, dicts), rest)) same h in
        as_gives base_from base_work_at bytes (desc, (flat, dicts)) rest (then_gives desc_at after_base bytes desc left (flat, dicts) rest first own)

  -- ---- layer

  module _ (l : Layout) (same : l ≡ layout_in desc) where
    pub no_layer : (e : ReadError) → Fails e (layer_at l left) → Fails e (as_at layer_from layer_work_at bytes)
    unfolding layer_work_at
    no_layer e h =
        let own : Fails e (after_layer desc left) = subst (λ (k : Layout). Fails e (layer_at k left)) same h in
        as_fails layer_from layer_work_at bytes e (second_fails desc_at after_layer bytes desc left e first own)

    pub layer_given : (dims : ℕ) (sizes : List ℕ) (parents : List CellRows) (rest : List ℕ) → layer_at l left ≡ Some ((dims, (sizes, parents)), rest) → as_at layer_from layer_work_at bytes ≡ Some (Layer desc dims sizes parents, rest)
    unfolding layer_work_at
    layer_given dims sizes parents rest h =
        let own : after_layer desc left ≡ Some ((dims, (sizes, parents)), rest) = subst (λ (k : Layout). layer_at k left ≡ Some ((dims, (sizes, parents)), rest)) same h in
        as_gives layer_from layer_work_at bytes (desc, (dims, (sizes, parents))) rest (then_gives desc_at after_layer bytes desc left (dims, (sizes, parents)) rest first own)
