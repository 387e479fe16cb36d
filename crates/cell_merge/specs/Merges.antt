-- The merge of the tables of parts.
use Rattle.std.specs.Prelude.{◌≡◌, ℕ, List, [], ◌∷◌, ◌++◌, All}
use Rattle.std.specs.List.{flat_map}
use Rattle.cell_gather.specs.Gathers.{gathered}
use Rattle.cell_store.specs.Cells.{CellRows, ItemsAreFew}
use Rattle.cell_store.specs.declared.cell.Cell.{Cell}
use Rattle.cell_merge.specs.Renumbered.{renumbered}

-- the renumbered rows of all parts, part by part
abbrev pub renumbered_parts : List (List (List ℕ)) → List CellRows → List (List ℕ × List Cell)
renumbered_parts [] parts = []
renumbered_parts (r ∷ remaps) [] = []
renumbered_parts (r ∷ remaps) (part ∷ parts) = renumbered r part ++ renumbered_parts remaps parts

-- parts of one mask and with cells of the same forms
pub record AreAlike (table : CellRows) (parts : List CellRows) : Type 0 where
  pub masks : All (λ part. part.mask ≡ table.mask) parts
  pub forms : All (λ part. part.forms ≡ table.forms) parts

-- all have the mask and the forms of the first
abbrev pub AreOfOneKind : List CellRows → Type 0
AreOfOneKind [] = Unit {0}
AreOfOneKind (part ∷ parts) = AreAlike part parts

-- for each form the items of its cells in all parts are together few enough
abbrev pub AreFew : List CellRows → Type 0
AreFew [] = Unit {0}
AreFew (part ∷ parts) = ItemsAreFew part.forms (flat_map (λ p. p.rows) (part ∷ parts))

-- a table is the merge of parts: their renumbered rows, gathered by whole keys
pub record IsMerge (remaps : List (List (List ℕ))) (parts : List CellRows) (table : CellRows) : Type 0 where
  pub alike : AreAlike table parts
  pub rows : table.rows ≡ gathered table.forms (λ key. key) (renumbered_parts remaps parts)
