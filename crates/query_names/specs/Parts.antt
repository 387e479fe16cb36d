-- The parts of a query: which terms and columns stand where.
use Rattle.std.specs.Prelude.{ℕ, List, [], ◌∷◌, ◌++◌, map, Option, Some, None, Bool, false, bytes_eq}
use Rattle.std.specs.List.{find, flat_map}
use Rattle.sql_reader.specs.declared.tree.Name.{Name}
use Rattle.sql_reader.specs.declared.tree.ColRef.{ColRef}
use Rattle.sql_reader.specs.declared.tree.Item.{Item}
use Rattle.sql_reader.specs.declared.tree.Join.{Join}
use Rattle.sql_reader.specs.declared.tree.SqlLit.{SqlLit}
use Rattle.sql_reader.specs.declared.tree.SqlTerm.{SqlTerm}
use Rattle.sql_reader.specs.declared.tree.SqlTerm.TheVariants.{Col, Agg}
use Rattle.sql_reader.specs.declared.tree.SqlCond.{SqlCond, fold-SqlCond}
use Rattle.sql_reader.specs.declared.tree.SqlCond.TheOpen.{SqlCond-F}
use Rattle.sql_reader.specs.declared.tree.Query.{Query}

-- ---- places

abbrev pub place_from : Option Name → Name → ℕ
place_from None column = column.place
place_from (Some table) column = table.place

-- where a column stands: at its table's name, where it is named with it, else at its own
abbrev pub place_of : ColRef → ℕ
place_of r = place_from r.table r.column

-- ---- conditions

abbrev pub terms_step : SqlCond-F (List SqlTerm) → List SqlTerm
terms_step (SqlCond-F.Compare term test lit) = term ∷ []
terms_step (SqlCond-F.AnyOf term lits) = term ∷ []
terms_step (SqlCond-F.Between term low high) = term ∷ []
terms_step (SqlCond-F.IsNull term) = term ∷ []
terms_step (SqlCond-F.And a b) = a ++ b
terms_step (SqlCond-F.Or a b) = a ++ b
terms_step (SqlCond-F.Not a) = a

-- the terms that a condition names
abbrev pub cond_terms : SqlCond → List SqlTerm
cond_terms = fold-SqlCond (List SqlTerm) terms_step

abbrev pub pairs_step : SqlCond-F (List (SqlTerm × SqlLit)) → List (SqlTerm × SqlLit)
pairs_step (SqlCond-F.Compare term test lit) = (term, lit) ∷ []
pairs_step (SqlCond-F.AnyOf term lits) = map (λ lit. (term, lit)) lits
pairs_step (SqlCond-F.Between term low high) = (term, low) ∷ (term, high) ∷ []
pairs_step (SqlCond-F.IsNull term) = []
pairs_step (SqlCond-F.And a b) = a ++ b
pairs_step (SqlCond-F.Or a b) = a ++ b
pairs_step (SqlCond-F.Not a) = a

-- the terms that a condition compares, each with its literal
abbrev pub cond_pairs : SqlCond → List (SqlTerm × SqlLit)
cond_pairs = fold-SqlCond (List (SqlTerm × SqlLit)) pairs_step

-- what each term of a condition gives, where there is a condition
abbrev pub of_cond : {A : Type 0} → (SqlTerm → List A) → Option SqlCond → List A
of_cond give None = []
of_cond give (Some cond) = flat_map give (cond_terms cond)

-- what each literal of a condition gives, with the term that it is compared with
abbrev pub of_pairs : {A : Type 0} → (SqlTerm × SqlLit → List A) → Option SqlCond → List A
of_pairs give None = []
of_pairs give (Some cond) = flat_map give (cond_pairs cond)

-- ---- keys of the order

abbrev pub is_called : List ℕ → Option (List ℕ) → Bool
is_called name None = false
is_called name (Some alias) = bytes_eq alias name

abbrev pub term_or : SqlTerm → Option Item → SqlTerm
term_or term None = term
term_or term (Some item) = item.term

abbrev pub column_key : Query → ColRef → Option Name → SqlTerm
column_key q r None = term_or (Col r) (find (λ item. is_called r.column.text item.alias) q.items)
column_key q r (Some table) = Col r

-- what a key of ORDER BY is: a bare name that is an alias of the select list is that item, the first such; every other key is itself
abbrev pub key_term : Query → SqlTerm → SqlTerm
key_term q (Col r) = column_key q r r.table
key_term q (Agg place word column) = Agg place word column

-- ---- what is worked out of groups

-- what each term gives that is selected of groups, tested in HAVING or ordered by
abbrev pub of_group_terms : {A : Type 0} → (SqlTerm → List A) → Query → List A
of_group_terms give q =
    flat_map (λ item. give item.term) q.items
    ++ of_cond give q.having
    ++ flat_map (λ key. give (key_term q key.term)) q.order

-- ---- columns

abbrev pub of_option : {A : Type 0} → (ColRef → List A) → Option ColRef → List A
of_option give None = []
of_option give (Some r) = give r

-- the column of a term, also of an aggregate
abbrev pub of_term : {A : Type 0} → (ColRef → List A) → SqlTerm → List A
of_term give (Col r) = give r
of_term give (Agg place word column) = of_option give column

abbrev pub of_join : {A : Type 0} → (ColRef → List A) → Join → List A
of_join give j = flat_map (λ pair. give pair.left ++ give pair.right) j.pairs

-- what each column of the query gives
abbrev pub of_columns : {A : Type 0} → (ColRef → List A) → Query → List A
of_columns give q =
    flat_map (of_join give) q.joins
    ++ of_cond (of_term give) q.filter
    ++ flat_map give q.group
    ++ of_group_terms (of_term give) q
