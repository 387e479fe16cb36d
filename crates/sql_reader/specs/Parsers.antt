-- The readers of the grammar's rules, each as the code reads.
use Rattle.std.specs.Prelude.{ℕ, zero, suc, Bool, true, false, List, [], ◌∷◌, length, Option, Ok, Err, if◌then◌else◌}
use Rattle.sql_tokens.specs.declared.kind.Kind.{Kind}
use Rattle.sql_tokens.specs.declared.kind.Kind.TheVariants as k
use Rattle.sql_tokens.specs.declared.token.Token.{Token}
use Rattle.sql_reader.specs.declared.tree.Name.{Name}
use Rattle.sql_reader.specs.declared.tree.ColRef.{ColRef}
use Rattle.sql_reader.specs.declared.tree.AggWord.{AggWord}
use Rattle.sql_reader.specs.declared.tree.SqlTerm.{SqlTerm}
use Rattle.sql_reader.specs.declared.tree.Item.{Item}
use Rattle.sql_reader.specs.declared.tree.JoinKind.{JoinKind}
use Rattle.sql_reader.specs.declared.tree.JoinPair.{JoinPair}
use Rattle.sql_reader.specs.declared.tree.Join.{Join}
use Rattle.sql_reader.specs.declared.parts.Sign.{Sign}
use Rattle.sql_reader.specs.declared.tree.SqlTest.{SqlTest}
use Rattle.sql_reader.specs.declared.tree.SqlLit.{SqlLit}
use Rattle.sql_reader.specs.declared.parts.Tail.{Tail}
use Rattle.sql_reader.specs.declared.tree.SqlCond.{SqlCond}
use Rattle.sql_reader.specs.declared.tree.SqlKey.{SqlKey}
use Rattle.sql_reader.specs.declared.tree.Query.{Query}
use Rattle.sql_reader.specs.declared.tree.AggWord.TheVariants as words
use Rattle.sql_reader.specs.declared.tree.SqlTest.TheVariants as tests
use Rattle.sql_reader.specs.declared.tree.SqlCond.TheVariants as conds
use Rattle.sql_reader.specs.declared.stop.Stop.TheVariants.{Barred}
use Rattle.sql_reader.specs.declared.stop.Bar.{Bar}
use Rattle.sql_reader.specs.declared.stop.Bar.TheVariants as bars
use Rattle.sql_reader.specs.Kinds.{heads, bar_of}
use Rattle.sql_reader.specs.Readers.{◌>>=◌, Reader, read_token, read_pair, read_seen, read_choice, read_optional, read_many}
use Rattle.sql_reader.specs.Grammar.{second, front, folded, alone, push, name_of, col_of, counts_rows, counts_distinct, counts_column, agg_of, with_word, column_of, item_of, is_inner, is_left, or_inner, pair_of, join_of, plus_of, minus_of, number_of_signed, text_of, date_of, test_of, compare_of, any_of, none_of, between_of, not_between_of, null_of, cond_of, same_cond, rises, falls, key_of, rows_of, or_none, place_of, query_of}

abbrev pub read_after : {A : Type 0} → Kind → Reader A → Reader A
read_after k p = read_seen second (read_pair (read_token k) p)

abbrev pub read_before : {A : Type 0} → Reader A → Kind → Reader A
read_before p k = read_seen front (read_pair p (read_token k))

-- what was read before, and a token behind it
abbrev pub read_end : {A : Type 0} → A → Kind → Reader A
read_end x k ts = do
  y ← read_token k ts
  Ok (x, y.1)

abbrev pub read_chain : {A B C : Type 0} → (A → C) → (C → B → C) → List Kind → Reader A → Reader B → Reader C
read_chain g f first p q = read_seen (folded g f) (read_pair p (read_many first q))

abbrev pub read_list : {A : Type 0} → Reader A → Reader (List A)
read_list p = read_chain alone push (k.Comma ∷ []) p (read_after k.Comma p)

-- at the limit of depth
abbrev pub read_barred : {A : Type 0} → Bar → Reader A → Reader A
read_barred w p ts = if heads (bar_of w) ts then Err (Barred w (length ts)) else p ts

unfoldable pub read_place : Kind → Reader ℕ
read_place k = read_seen place_of (read_token k)

unfoldable pub read_name : Reader Name
read_name = read_seen name_of (read_token k.Name)

unfoldable pub read_col : Reader ColRef
read_col = read_seen col_of (read_pair read_name (read_optional (k.Dot ∷ []) (read_after k.Dot read_name)))

unfoldable pub read_counted : Reader (AggWord × Option ColRef)
read_counted = read_choice (k.Star ∷ []) (read_seen counts_rows (read_token k.Star)) (read_choice (k.One ∷ []) (read_seen counts_rows (read_token k.One)) (read_choice (k.Distinct ∷ []) (read_after k.Distinct (read_seen counts_distinct read_col)) (read_seen counts_column read_col)))

unfoldable pub read_count : Reader SqlTerm
read_count = read_seen agg_of (read_pair (read_token k.Count) (read_after k.Open (read_before read_counted k.Close)))

unfoldable pub read_measure : Kind → AggWord → Reader SqlTerm
read_measure m w = read_seen agg_of (read_pair (read_token m) (read_after k.Open (read_before (read_seen (with_word w) read_col) k.Close)))

unfoldable pub read_term : Reader SqlTerm
read_term = read_choice (k.Name ∷ []) (read_seen column_of read_col) (read_choice (k.Count ∷ []) read_count (read_choice (k.Sum ∷ []) (read_measure k.Sum words.Sum) (read_choice (k.Min ∷ []) (read_measure k.Min words.Min) (read_choice (k.Max ∷ []) (read_measure k.Max words.Max) (read_measure k.Avg words.Avg)))))

unfoldable pub read_alias : Reader Name
read_alias = read_choice (k.As ∷ []) (read_after k.As read_name) read_name

unfoldable pub read_item : Reader Item
read_item = read_seen item_of (read_pair read_term (read_optional (k.As ∷ k.Name ∷ []) read_alias))

unfoldable pub read_items : Reader (List Item)
read_items = read_list read_item

unfoldable pub read_join_word : Reader JoinKind
read_join_word = read_choice (k.Inner ∷ []) (read_seen is_inner (read_token k.Inner)) (read_after k.Left (read_seen is_left (read_optional (k.Outer ∷ []) (read_place k.Outer))))

unfoldable pub read_join_kind : Reader JoinKind
read_join_kind = read_seen or_inner (read_optional (k.Inner ∷ k.Left ∷ []) read_join_word)

unfoldable pub read_join_pair : Reader JoinPair
read_join_pair = read_seen pair_of (read_pair read_col (read_after k.Equal read_col))

unfoldable pub read_join_pairs : Reader (List JoinPair)
read_join_pairs = read_chain alone push (k.And ∷ []) read_join_pair (read_after k.And read_join_pair)

unfoldable pub read_join : Reader Join
read_join = read_seen join_of (read_pair read_join_kind (read_pair (read_after k.Join read_name) (read_after k.On read_join_pairs)))

unfoldable pub read_joins : Reader (List Join)
read_joins = read_many (k.Inner ∷ k.Left ∷ k.Join ∷ []) read_join

unfoldable pub read_number : Reader Token
read_number = read_choice (k.One ∷ []) (read_token k.One) (read_choice (k.Whole ∷ []) (read_token k.Whole) (read_token k.Number))

unfoldable pub read_sign : Reader Sign
read_sign = read_choice (k.Plus ∷ []) (read_seen plus_of (read_token k.Plus)) (read_seen minus_of (read_token k.Minus))

unfoldable pub read_signed : Reader SqlLit
read_signed = read_seen number_of_signed (read_pair (read_optional (k.Plus ∷ k.Minus ∷ []) read_sign) read_number)

unfoldable pub read_lit : Reader SqlLit
read_lit = read_choice (k.Text ∷ []) (read_seen text_of (read_token k.Text)) (read_choice (k.Date ∷ []) (read_seen date_of (read_pair (read_token k.Date) (read_token k.Text))) read_signed)

unfoldable pub read_lit_list : Reader (List SqlLit)
read_lit_list = read_list read_lit

unfoldable pub read_lits : Reader (List SqlLit)
read_lits = read_after k.Open (read_before read_lit_list k.Close)

unfoldable pub read_comparison : Reader SqlTest
read_comparison = read_choice (k.Equal ∷ []) (read_seen (test_of tests.Eq) (read_token k.Equal)) (read_choice (k.NotEqual ∷ []) (read_seen (test_of tests.Ne) (read_token k.NotEqual)) (read_choice (k.Less ∷ []) (read_seen (test_of tests.Lt) (read_token k.Less)) (read_choice (k.LessEqual ∷ []) (read_seen (test_of tests.Le) (read_token k.LessEqual)) (read_choice (k.Greater ∷ []) (read_seen (test_of tests.Gt) (read_token k.Greater)) (read_seen (test_of tests.Ge) (read_token k.GreaterEqual))))))

unfoldable pub read_bounds : Reader (SqlLit × SqlLit)
read_bounds = read_after k.Between (read_pair read_lit (read_after k.And read_lit))

unfoldable pub read_negated : Reader Tail
read_negated = read_after k.Not (read_choice (k.In ∷ []) (read_seen none_of (read_after k.In read_lits)) (read_seen not_between_of read_bounds))

unfoldable pub read_null : Reader Tail
read_null = read_after k.Is (read_seen null_of (read_pair (read_optional (k.Not ∷ []) (read_place k.Not)) (read_place k.Null)))

unfoldable pub read_compare : Reader Tail
read_compare = read_seen compare_of (read_pair read_comparison read_lit)

unfoldable pub read_test : Reader Tail
read_test =
    read_choice (k.Equal ∷ k.NotEqual ∷ k.Less ∷ k.LessEqual ∷ k.Greater ∷ k.GreaterEqual ∷ []) read_compare
    (read_choice (k.In ∷ []) (read_seen any_of (read_after k.In read_lits))
    (read_choice (k.Between ∷ []) (read_seen between_of read_bounds)
    (read_choice (k.Not ∷ []) read_negated read_null)))

unfoldable pub read_basic : Reader SqlCond
read_basic = read_seen cond_of (read_pair read_term read_test)

unfoldable pub read_conj : Reader SqlCond → Reader SqlCond
read_conj neg = read_chain same_cond conds.And (k.And ∷ []) neg (read_after k.And neg)

unfoldable pub read_disj : Reader SqlCond → Reader SqlCond
read_disj neg = read_chain same_cond conds.Or (k.Or ∷ []) (read_conj neg) (read_after k.Or (read_conj neg))

unfoldable pub read_neg : ℕ → Reader SqlCond
read_neg zero = read_barred bars.TooDeep read_basic
read_neg (suc depth) =
    read_choice (k.Not ∷ []) (read_after k.Not (read_seen conds.Not (read_neg depth)))
    (read_choice (k.Open ∷ []) (read_after k.Open (read_before (read_disj (read_neg depth)) k.Close)) read_basic)

unfoldable pub read_filter : ℕ → Reader SqlCond
read_filter depth = read_disj (read_neg depth)

unfoldable pub read_fall : Reader Bool
read_fall = read_choice (k.Asc ∷ []) (read_seen rises (read_token k.Asc)) (read_seen falls (read_token k.Desc))

unfoldable pub read_key : Reader SqlKey
read_key = read_seen key_of (read_pair read_term (read_optional (k.Asc ∷ k.Desc ∷ []) read_fall))

unfoldable pub strict_rows : Reader ℕ
strict_rows = read_seen rows_of (read_choice (k.One ∷ []) (read_token k.One) (read_token k.Whole))

unfoldable pub read_rows : Bool → Reader ℕ
read_rows true = read_seen rows_of (read_choice (k.One ∷ []) (read_token k.One) (read_choice (k.Whole ∷ []) (read_token k.Whole) (read_token k.Number)))
read_rows false = read_barred bars.BadNumber strict_rows

unfoldable pub read_limit : Bool → Reader ℕ
read_limit loose = read_after k.Limit (read_rows loose)

unfoldable pub read_cols : Reader (List ColRef)
read_cols = read_list read_col

unfoldable pub read_keys : Reader (List SqlKey)
read_keys = read_list read_key

unfoldable pub read_grouping : Reader (List ColRef)
read_grouping = read_seen or_none (read_optional (k.Group ∷ []) (read_after k.Group (read_after k.By read_cols)))

unfoldable pub read_ordering : Reader (List SqlKey)
read_ordering = read_seen or_none (read_optional (k.Order ∷ []) (read_after k.Order (read_after k.By read_keys)))

-- the parts of a query from the last, each with all behind it
abbrev pub read_ending : Bool → Reader (Option ℕ × Option ℕ)
read_ending loose = read_pair (read_optional (k.Limit ∷ []) (read_limit loose)) (read_optional (k.Semicolon ∷ []) (read_place k.Semicolon))

abbrev pub read_ordered : Bool → Reader (List SqlKey × (Option ℕ × Option ℕ))
read_ordered loose = read_pair read_ordering (read_ending loose)

abbrev pub read_grouped : ℕ → Bool → Reader (List ColRef × (Option SqlCond × (List SqlKey × (Option ℕ × Option ℕ))))
read_grouped depth loose = read_pair read_grouping (read_pair (read_optional (k.Having ∷ []) (read_after k.Having (read_filter depth))) (read_ordered loose))

abbrev pub read_source : ℕ → Bool → Reader (Name × (List Join × (Option SqlCond × (List ColRef × (Option SqlCond × (List SqlKey × (Option ℕ × Option ℕ)))))))
read_source depth loose =
    read_pair (read_after k.From read_name)
    (read_pair read_joins
    (read_pair (read_optional (k.Where ∷ []) (read_after k.Where (read_filter depth))) (read_grouped depth loose)))

unfoldable pub read_query : ℕ → Bool → Reader Query
read_query depth loose = read_seen query_of (read_pair (read_after k.Select read_items) (read_source depth loose))
