-- What columns and aggregates are used for.
use Rattle.std.specs.Prelude.{ℕ, List, [], ◌∷◌, ◌++◌, Option, Some, None, is_some, Bool, false, ◌&&◌, ◌||◌, ◌==◌}
use Rattle.std.specs.List.{flat_map, list_any}
use Rattle.cube_val.specs.declared.form.WideCol.{WideCol}
use Rattle.measure_laws.specs.declared.measure.MeasureForm.{MeasureForm}
use Rattle.measure_laws.specs.declared.measure.MeasureForm.TheVariants as form
use Rattle.measure_laws.specs.Kinds.{counts_rows, same_form}
use Rattle.cube_desc.specs.Cube.{Cube}
use Rattle.cube_desc.specs.Forms.{is_of}
use Rattle.cube_desc.specs.declared.desc.MeasureDesc.{MeasureDesc}
use Rattle.sql_reader.specs.declared.tree.ColRef.{ColRef}
use Rattle.sql_reader.specs.declared.tree.AggWord.{AggWord}
use Rattle.sql_reader.specs.declared.tree.AggWord.TheVariants as word
use Rattle.sql_reader.specs.declared.tree.SqlTerm.{SqlTerm}
use Rattle.sql_reader.specs.declared.tree.SqlTerm.TheVariants.{Col, Agg}
use Rattle.sql_reader.specs.declared.tree.Query.{Query}
use Rattle.query_names.specs.Least.{unless}
use Rattle.query_names.specs.Parts.{place_of, of_cond, of_group_terms}
use Rattle.query_names.specs.Resolve.{found, dimension_of, same_column}

-- ---- dimensions

-- a column that is neither in the rowkey nor derived
abbrev pub not_dimension : Cube → Query → ColRef → List ℕ
not_dimension c q r = unless (is_some (dimension_of c q r)) (place_of r)

-- a condition on rows names no aggregate
abbrev pub row_not_dimension : Cube → Query → SqlTerm → List ℕ
row_not_dimension c q (Col r) = not_dimension c q r
row_not_dimension c q (Agg place w column) = place ∷ []

abbrev pub group_not_dimension : Cube → Query → SqlTerm → List ℕ
group_not_dimension c q (Col r) = not_dimension c q r
group_not_dimension c q (Agg place w column) = []

abbrev pub not_dimensions : Cube → Query → List ℕ
not_dimensions c q =
    of_cond (row_not_dimension c q) q.filter
    ++ flat_map (not_dimension c q) q.group
    ++ of_group_terms (group_not_dimension c q) q

-- ---- measures

-- the form in which a cube keeps what an aggregate is worked out of; an average is worked out of its sum, and of the count of
-- known values that is kept of every measured column
abbrev pub kept_as : AggWord → MeasureForm
kept_as word.CountRows = form.Count
kept_as word.CountColumn = form.Known
kept_as word.CountDistinct = form.Distinct
kept_as word.Sum = form.Sum
kept_as word.Min = form.Min
kept_as word.Max = form.Max
kept_as word.Avg = form.Sum

-- for a measure of the descriptor a cube keeps one of this form of the column: that measure, or the count of known values
abbrev pub gives : MeasureForm → ℕ → MeasureDesc → Bool
gives f column m = (same_form f form.Known || same_form f m.form) && is_of column m.column

-- the cube keeps a measure of this form of the column, which has to be the fact table's
abbrev pub has_measure : Cube → MeasureForm → Option WideCol → Bool
has_measure c f None = false
has_measure c f (Some w) = (w.table == 0) && list_any (gives f w.column) c.measures

abbrev pub measured : Cube → Query → Option ColRef → Option WideCol
measured c q None = None
measured c q (Some r) = found c q r

-- the cube keeps what the aggregate is worked out of: the count of rows always, and the count of a column's known values where
-- a measure is of the column
abbrev pub is_kept : Cube → AggWord → Option WideCol → Bool
is_kept c w column = counts_rows (kept_as w) || has_measure c (kept_as w) column

abbrev pub no_measure : Cube → Query → SqlTerm → List ℕ
no_measure c q (Col r) = []
no_measure c q (Agg place w column) = unless (is_kept c w (measured c q column)) place

abbrev pub no_measures : Cube → Query → List ℕ
no_measures c q = of_cond (no_measure c q) q.filter ++ of_group_terms (no_measure c q) q

-- ---- groups

abbrev pub same_found : Option WideCol → Option WideCol → Bool
same_found None b = false
same_found (Some a) None = false
same_found (Some a) (Some b) = same_column a b

-- the column is one of GROUP BY
abbrev pub is_grouped : Cube → Query → Option WideCol → Bool
is_grouped c q column = list_any (λ g. same_found (found c q g) column) q.group

abbrev pub not_grouped : Cube → Query → SqlTerm → List ℕ
not_grouped c q (Col r) = unless (is_grouped c q (found c q r)) (place_of r)
not_grouped c q (Agg place w column) = []

abbrev pub not_grouped_terms : Cube → Query → List ℕ
not_grouped_terms c q = of_group_terms (not_grouped c q) q
