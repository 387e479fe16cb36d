-- What a cube's step files are read by, and the cell tables of its steps.
use Rattle.std.specs.Prelude.{◌<◌, ◌^◌, ◌*◌, ◌-◌, ℕ, Bool, ◌&&◌, is_some, List, [], ◌∷◌, drop, filter, length, map, slice_index_or, take}
use Rattle.std.specs.List.{AllByRecursion, list_any}
use Rattle.agg_group.specs.declared.mask.Mask.{Mask}
use Rattle.agg_group.specs.Mask.{mask_at}
use Rattle.measure_laws.specs.declared.kinds.ItemKind.{ItemKind}
use Rattle.measure_laws.specs.declared.kinds.ItemKind.TheVariants.{Rows, Values, Numbers, Ids}
use Rattle.measure_laws.specs.declared.measure.MeasureForm.{MeasureForm}
use Rattle.measure_laws.specs.Kinds.{item_kind}
use Rattle.cuboid_tree.specs.Tree.{SpansTree, is_child, is_of_layer, parent_of, places}
pub use Rattle.cube_val.specs.Limits.{row_limit}
use Rattle.cube_fields.specs.declared.dicts.DictForm.{DictForm}
use Rattle.cube_fields.specs.declared.forms.CellField.{CellField}
use Rattle.cube_fields.specs.declared.forms.CellTableForm.{CellTableForm}
use Rattle.step_codec.specs.declared.layout.DictColumn.{DictColumn}
use Rattle.step_codec.specs.declared.layout.Layout.{Layout}

-- the most values of a dictionary of several snapshots together
abbrev pub size_limit : ℕ
size_limit = 200_000_000

-- the most snapshots of a segment
abbrev pub part_limit : ℕ
part_limit = 1_000

-- ---- dictionaries

abbrev pub dict_form : ℕ → DictColumn → DictForm
dict_form limit d = record { column = d.column; limit = limit }

-- one dictionary for each column that has one, of at most so many values each
abbrev pub dict_forms : Layout → ℕ → List DictForm
dict_forms l limit = map (dict_form limit) l.dicts

-- ---- cell tables

-- the size of a measure's dictionary, where the sizes of those that come next are given
abbrev pub size_for : ItemKind → List ℕ → ℕ
size_for Rows sizes = 0
size_for Values sizes = 0
size_for Numbers sizes = 0
size_for Ids sizes = slice_index_or sizes 0 0

-- the sizes of the dictionaries behind it
abbrev pub sizes_after : ItemKind → List ℕ → List ℕ
sizes_after Rows sizes = sizes
sizes_after Values sizes = sizes
sizes_after Numbers sizes = sizes
sizes_after Ids sizes = drop 1 sizes

abbrev pub field_of : List ℕ → MeasureForm → CellField
field_of sizes form = record { form = form; size = size_for (item_kind form) sizes }

-- the cells of measures, of which each that has a dictionary has the next one, where these have the sizes
abbrev pub fields_of : List ℕ → List MeasureForm → List CellField
fields_of sizes [] = []
fields_of sizes (form ∷ forms) = field_of sizes form ∷ fields_of (sizes_after (item_kind form) sizes) forms

-- the form of the cell tables of so many snapshots, whose dictionaries have these sizes
abbrev pub table_form : Layout → List ℕ → ℕ → CellTableForm
table_form l sizes parts = record { sizes = take l.dims sizes; cells = fields_of (drop l.dims sizes) l.measures; extremes = l.extremes; most = row_limit * parts }

-- the mask of the base, which is the last
abbrev pub base_mask : Layout → Mask
base_mask l = mask_at l.masks (length l.masks - 1)

-- the place is that of a cuboid with so many dimensions that isn't the base
abbrev pub is_in_layer : List Mask → ℕ → ℕ → Bool
is_in_layer masks dims i = is_of_layer masks dims i && is_some (parent_of masks i)

-- the cuboids with so many dimensions but the base, rising
abbrev pub layer_masks : List Mask → ℕ → List Mask
layer_masks masks dims = map (mask_at masks) (filter (is_in_layer masks dims) (places masks))

-- the place is that of the parent of such a cuboid
abbrev pub is_above_layer : List Mask → ℕ → ℕ → Bool
is_above_layer masks dims p = list_any (λ i. is_of_layer masks dims i && is_child masks p i) (places masks)

-- the parents of the cuboids with so many dimensions, rising
abbrev pub parent_masks : List Mask → ℕ → List Mask
parent_masks masks dims = map (mask_at masks) (filter (is_above_layer masks dims) (places masks))

-- ---- layouts

-- what a descriptor's layout keeps
pub record IsLayout (l : Layout) : Type 0 where
  pub spans : SpansTree l.masks
  pub few_masks : length l.masks < 2 ^ 32
  pub masks : AllByRecursion (λ m. m.0 < 2 ^ 64) l.masks
  pub few_dicts : length l.dicts < 2 ^ 32
