-- The ask that a query is of the joined rows of a cube.
use Rattle.std.specs.Prelude.{ℕ, List, [], ◌∷◌, ◌++◌, map, fold, drop, Option, Some, None, unwrap_or, Bool, true, false, ◌&&◌, ◌==◌, ◌+◌, if◌then◌else◌}
use Rattle.std.specs.List.{list_any, position}
use Rattle.cube_val.specs.declared.form.WideCol.{WideCol}
use Rattle.cube_desc.specs.Cube.{Cube}
use Rattle.sql_reader.specs.declared.tree.ColRef.{ColRef}
use Rattle.sql_reader.specs.declared.tree.Item.{Item}
use Rattle.sql_reader.specs.declared.tree.AggWord.{AggWord}
use Rattle.sql_reader.specs.declared.tree.AggWord.TheVariants as word
use Rattle.sql_reader.specs.declared.tree.SqlTerm.{SqlTerm}
use Rattle.sql_reader.specs.declared.tree.SqlTerm.TheVariants as sql
use Rattle.sql_reader.specs.declared.tree.SqlTest.{SqlTest}
use Rattle.sql_reader.specs.declared.tree.SqlTest.TheVariants as sql_test
use Rattle.sql_reader.specs.declared.tree.SqlLit.{SqlLit}
use Rattle.sql_reader.specs.declared.tree.SqlLitKind.{SqlLitKind}
use Rattle.sql_reader.specs.declared.tree.SqlLitKind.TheVariants as sql_lit
use Rattle.sql_reader.specs.declared.tree.SqlCond.{SqlCond, fold-SqlCond}
use Rattle.sql_reader.specs.declared.tree.SqlCond.TheOpen.{SqlCond-F}
use Rattle.sql_reader.specs.declared.tree.SqlKey.{SqlKey}
use Rattle.sql_reader.specs.declared.tree.Query.{Query}
use Rattle.plain_answer.specs.declared.ask.Agg.{Agg}
use Rattle.plain_answer.specs.declared.ask.AggKind.{AggKind}
use Rattle.plain_answer.specs.declared.ask.AggKind.TheVariants as kind
use Rattle.plain_answer.specs.Kinds.{kind_of_form, same_kind}
use Rattle.plain_answer.specs.declared.ask.Ask.{Ask}
use Rattle.plain_answer.specs.declared.ask.Out.{Out}
use Rattle.plain_answer.specs.declared.ask.OrderKey.{OrderKey}
use Rattle.plain_answer.specs.declared.cond.Cond.{Cond}
use Rattle.plain_answer.specs.declared.cond.Cond.TheVariants as cond
use Rattle.plain_answer.specs.declared.cond.Lit.{Lit}
use Rattle.plain_answer.specs.declared.cond.Lit.TheVariants as lit
use Rattle.plain_answer.specs.declared.cond.Term.{Term}
use Rattle.plain_answer.specs.declared.cond.Term.TheVariants as term
use Rattle.plain_answer.specs.declared.cond.Test.{Test}
use Rattle.plain_answer.specs.declared.cond.Test.TheVariants as test
use Rattle.query_names.specs.Parts.{key_term, of_group_terms}
use Rattle.query_names.specs.Resolve.{column_type, dimension_count, dimension_of, same_column, type_found}
use Rattle.query_names.specs.Uses.{kept_as, measured}
use Rattle.query_bind.specs.Titles.{name_of}

-- ---- aggregates

-- the place of a measured column in a joined row: among the columns behind the rowkey and the derived ones
abbrev pub measure_place : Cube → WideCol → ℕ
measure_place c w = dimension_count c + unwrap_or (position (λ own. same_column own w) (drop (dimension_count c) c.plan.wide)) 0

abbrev pub measure_column : Cube → Option WideCol → Option ℕ
measure_column c None = None
measure_column c (Some w) = Some (measure_place c w)

-- what an aggregate makes of rows: an average is kept as a sum, and each other kind as itself
abbrev pub kind_of : AggWord → AggKind
kind_of word.Avg = kind.Avg
kind_of w = kind_of_form (kept_as w)

-- an aggregate of the column that is found
abbrev pub agg_of : Cube → AggWord → Option WideCol → Agg
agg_of c w column = record { kind = kind_of w; column = measure_column c column; ty = type_found c column }

-- the aggregate that a term is
abbrev pub given_agg : Cube → Query → SqlTerm → List Agg
given_agg c q (sql.Col r) = []
given_agg c q (sql.Agg place w column) = agg_of c w (measured c q column) ∷ []

abbrev pub same_number : Option ℕ → Option ℕ → Bool
same_number None None = true
same_number None (Some b) = false
same_number (Some a) None = false
same_number (Some a) (Some b) = a == b

-- two aggregates are one where they are of one kind and one column
abbrev pub same_agg : Agg → Agg → Bool
same_agg a b = same_kind a.kind b.kind && same_number a.column b.column

abbrev pub with_agg : List Agg → Agg → List Agg
with_agg aggs agg = if list_any (same_agg agg) aggs then aggs else aggs ++ agg ∷ []

-- the aggregates of the query, each where it first stands: in the select list, HAVING, ORDER BY
abbrev pub aggs_of : Cube → Query → List Agg
aggs_of c q = fold with_agg [] (of_group_terms (given_agg c q) q)

-- ---- terms

-- the place of a rowkey or derived column in a joined row
abbrev pub column_number : Cube → Query → ColRef → ℕ
column_number c q r = unwrap_or (dimension_of c q r) 0

abbrev pub agg_number : List Agg → Agg → ℕ
agg_number aggs agg = unwrap_or (position (same_agg agg) aggs) 0

abbrev pub bound_term : Cube → Query → List Agg → SqlTerm → Term
bound_term c q aggs (sql.Col r) = term.Col (column_number c q r) (column_type c q r)
bound_term c q aggs (sql.Agg place w column) = term.Agg (agg_number aggs (agg_of c w (measured c q column)))

-- ---- conditions

abbrev pub bound_test : SqlTest → Test
bound_test sql_test.Eq = test.Eq
bound_test sql_test.Ne = test.Ne
bound_test sql_test.Lt = test.Lt
bound_test sql_test.Le = test.Le
bound_test sql_test.Gt = test.Gt
bound_test sql_test.Ge = test.Ge

-- numbers are in units of 1/10000, and a date is its text
abbrev pub bound_kind : SqlLitKind → Lit
bound_kind (sql_lit.Number n) = lit.Number n
bound_kind (sql_lit.Text t) = lit.Text t
bound_kind (sql_lit.Date t) = lit.Text t

abbrev pub bound_lit : SqlLit → Lit
bound_lit l = bound_kind l.kind

-- BETWEEN is the AND of two comparisons
abbrev pub bound_step : Cube → Query → List Agg → SqlCond-F Cond → Cond
bound_step c q aggs (SqlCond-F.Compare t op l) = cond.Compare (bound_term c q aggs t) (bound_test op) (bound_lit l)
bound_step c q aggs (SqlCond-F.AnyOf t ls) = cond.AnyOf (bound_term c q aggs t) (map bound_lit ls)
bound_step c q aggs (SqlCond-F.Between t low high) =
    cond.And (cond.Compare (bound_term c q aggs t) test.Ge (bound_lit low)) (cond.Compare (bound_term c q aggs t) test.Le (bound_lit high))
bound_step c q aggs (SqlCond-F.IsNull t) = cond.IsNull (bound_term c q aggs t)
bound_step c q aggs (SqlCond-F.And a b) = cond.And a b
bound_step c q aggs (SqlCond-F.Or a b) = cond.Or a b
bound_step c q aggs (SqlCond-F.Not a) = cond.Not a

abbrev pub bound_cond : Cube → Query → List Agg → SqlCond → Cond
bound_cond c q aggs = fold-SqlCond Cond (bound_step c q aggs)

-- every row and every group passes where there is no condition
abbrev pub bound_or_true : Cube → Query → List Agg → Option SqlCond → Cond
bound_or_true c q aggs None = cond.True
bound_or_true c q aggs (Some given) = bound_cond c q aggs given

-- ---- the ask

abbrev pub bound_item : Cube → Query → List Agg → Item → Out
bound_item c q aggs item = record { name = name_of item; term = bound_term c q aggs item.term }

abbrev pub bound_key : Cube → Query → List Agg → SqlKey → OrderKey
bound_key c q aggs key = record { term = bound_term c q aggs (key_term q key.term); falling = key.falling }

-- the ask, with these aggregates
abbrev pub ask_with : Cube → Query → List Agg → Ask
ask_with c q aggs = record {
  filter = bound_or_true c q aggs q.filter;
  group = map (column_number c q) q.group;
  aggs = aggs;
  outs = map (bound_item c q aggs) q.items;
  having = bound_or_true c q aggs q.having;
  order = map (bound_key c q aggs) q.order;
  limit = q.limit;
}

abbrev pub ask_of : Cube → Query → Ask
ask_of c q = ask_with c q (aggs_of c q)
