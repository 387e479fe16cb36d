-- What holds of all these fields.
use Rattle.std.specs.Prelude.{◌<◌, ◌^◌, List, length}
use Rattle.std.specs.List.{AllByRecursion}
use Rattle.agg_group.specs.declared.mask.Mask.{Mask}
use Rattle.byte_frame.specs.Exact.{Exact}
use Rattle.cube_fields.specs.Cells.{FitsTable, FitsTables, table_text, tables_text}
use Rattle.cube_fields.specs.Dicts.{FitsDict, FitsDicts, dict_text, dicts_text}
use Rattle.cube_fields.specs.Reading.{dict_at, dicts_at, table_at, tables_at}
use Rattle.cube_fields.specs.declared.dicts.DictForm.{DictForm}
use Rattle.cube_fields.specs.declared.forms.CellTableForm.{CellTableForm}

-- each field is read exactly: what fits is read again from what it is written as, whatever follows, and what is read was so written and fits
pub record FieldsAreExact : Type 0 where
  pub dict : (form : DictForm) → form.limit < 2 ^ 32 → Exact dict_text (FitsDict form) (dict_at form)
  pub dicts : (forms : List DictForm) → length forms < 2 ^ 32 → AllByRecursion (λ form. form.limit < 2 ^ 32) forms → Exact dicts_text (FitsDicts forms) (dicts_at forms)
  pub table : (form : CellTableForm) (mask : Mask) → form.most < 2 ^ 32 → mask.0 < 2 ^ 64 → Exact table_text (FitsTable form mask) (table_at form mask)
  pub tables : (form : CellTableForm) (masks : List Mask) → form.most < 2 ^ 32 → length masks < 2 ^ 32 → AllByRecursion (λ mask. mask.0 < 2 ^ 64) masks → Exact tables_text (FitsTables form masks) (tables_at form masks)
