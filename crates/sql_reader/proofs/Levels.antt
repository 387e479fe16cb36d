-- Each reader of the grammar is exact for its rule, and does as the reader of one more level does.
use Rattle.std.proofs.Common.{◌≡◌, ℕ, zero, suc, Bool, true, false, ◌||◌, List, [], ◌∷◌, refl, inl, inr}
use Rattle.sql_tokens.specs.declared.kind.Kind.{Kind}
use Rattle.sql_tokens.specs.declared.kind.Kind.TheVariants as k
use Rattle.sql_tokens.specs.declared.token.Token.{Token}
use Rattle.sql_reader.specs.declared.tree.AggWord.{AggWord}
use Rattle.sql_reader.specs.declared.tree.AggWord.TheVariants as words
use Rattle.sql_reader.specs.declared.tree.SqlTest.TheVariants as tests
use Rattle.sql_reader.specs.declared.tree.SqlCond.{SqlCond}
use Rattle.sql_reader.specs.declared.tree.SqlCond.TheVariants as conds
use Rattle.sql_reader.specs.Kinds.{same, heads}
use Rattle.sql_reader.specs.declared.stop.Bar.TheVariants as bars
use Rattle.sql_reader.specs.Rules.{Rule, optional, choice, token, seen, many}
use Rattle.sql_reader.specs.Readers.{Reader}
use Rattle.sql_reader.specs.Grammar.{alone, push, second, name_of, name, col_of, col, counts_rows, counts_distinct, counts_column, counted, agg_of, count, with_word, measure, column_of, term, item_of, alias, item, is_inner, is_left, or_inner, join_kind, pair_of, join_pair, join_pairs, join_of, join, number, sign, plus_of, minus_of, number_of_signed, text_of, date_of, lit, list, lits, test_of, comparison, compare_of, any_of, none_of, between_of, not_between_of, null_of, bounds, test, cond_of, basic, same_cond, conj, disj, neg, rises, falls, key_of, key, rows_of, rows, limit, or_none, grouping, ordering, place_of, query_of, query, ◌▹◌}
use Rattle.sql_reader.specs.Parsers
use Rattle.sql_reader.proofs.Sets.{or_cases, or_left, or_right, both_ways}
use Rattle.sql_reader.proofs.Exact.{Exact}
use Rattle.sql_reader.proofs.Deeper.{Deeper, d_token, d_seen, d_pair, d_choice, d_optional, d_many, d_weaker, d_after, d_before, d_chain, d_barred}

abbrev Level : {A : Type 0} → List Kind → List Kind → Bool → Rule A → Reader A → Type 0
Level first more empty R p = Deeper first more empty R p R p

pub d_place : (m : Kind) → Level (m ∷ []) [] false (seen place_of (token m)) (Parsers.read_place m)
unfolding Parsers.read_place
d_place m = d_seen place_of (d_token m)

pub d_name : Level (k.Name ∷ []) [] false name Parsers.read_name
unfolding Parsers.read_name
d_name = d_seen name_of (d_token k.Name)

pub d_col : Level (k.Name ∷ []) (k.Dot ∷ []) false col Parsers.read_col
unfolding Parsers.read_col
d_col = d_seen col_of (d_pair d_name (d_optional (d_after k.Dot d_name)) refl)

pub d_counted : Level (k.Star ∷ k.One ∷ k.Distinct ∷ k.Name ∷ []) (k.Dot ∷ []) false counted Parsers.read_counted
unfolding Parsers.read_counted
d_counted = d_weaker _ _ (d_choice (d_seen counts_rows (d_token k.Star)) (d_choice (d_seen counts_rows (d_token k.One)) (d_choice (d_after k.Distinct (d_seen counts_distinct d_col)) (d_seen counts_column d_col) refl) refl) refl) refl refl

pub d_count : Level (k.Count ∷ []) [] false count Parsers.read_count
unfolding Parsers.read_count
d_count = d_seen agg_of (d_pair (d_token k.Count) (d_after k.Open (d_before k.Close d_counted refl)) refl)

pub d_measure : (m : Kind) (w : AggWord) → Level (m ∷ []) [] false (measure m w) (Parsers.read_measure m w)
unfolding Parsers.read_measure
d_measure m w = d_seen agg_of (d_pair (d_token m) (d_after k.Open (d_before k.Close (d_seen (with_word w) d_col) refl)) refl)

abbrev pub starts_term : List Kind
starts_term = k.Name ∷ k.Count ∷ k.Sum ∷ k.Min ∷ k.Max ∷ k.Avg ∷ []

pub d_term : Level starts_term (k.Dot ∷ []) false term Parsers.read_term
unfolding Parsers.read_term
d_term = d_choice (d_seen column_of d_col) (d_choice d_count (d_choice (d_measure k.Sum words.Sum) (d_choice (d_measure k.Min words.Min) (d_choice (d_measure k.Max words.Max) (d_measure k.Avg words.Avg) refl) refl) refl) refl) refl

pub d_alias : Level (k.As ∷ k.Name ∷ []) [] false alias Parsers.read_alias
unfolding Parsers.read_alias
d_alias = d_choice (d_after k.As d_name) d_name refl

pub d_item : Level starts_term (k.Dot ∷ k.As ∷ k.Name ∷ []) false item Parsers.read_item
unfolding Parsers.read_item
d_item = d_seen item_of (d_pair d_term (d_optional d_alias) refl)

pub d_items : Level starts_term (k.Dot ∷ k.As ∷ k.Name ∷ k.Comma ∷ []) false (list item) Parsers.read_items
unfolding Parsers.read_items
d_items = d_weaker _ _ (d_chain alone push d_item (d_after k.Comma d_item) refl refl) refl refl

pub d_join_word : Level (k.Inner ∷ k.Left ∷ []) (k.Outer ∷ []) false (choice (seen is_inner (token k.Inner)) (k.Left ▹ seen is_left (optional (seen place_of (token k.Outer))))) Parsers.read_join_word
unfolding Parsers.read_join_word
d_join_word = d_choice (d_seen is_inner (d_token k.Inner)) (d_seen second (d_pair (d_token k.Left) (d_seen is_left (d_optional (d_place k.Outer))) refl)) refl

pub d_join_kind : Level (k.Inner ∷ k.Left ∷ []) (k.Inner ∷ k.Left ∷ k.Outer ∷ []) true join_kind Parsers.read_join_kind
unfolding Parsers.read_join_kind
d_join_kind = d_seen or_inner (d_optional d_join_word)

pub d_join_pair : Level (k.Name ∷ []) (k.Dot ∷ []) false join_pair Parsers.read_join_pair
unfolding Parsers.read_join_pair
d_join_pair = d_seen pair_of (d_pair d_col (d_after k.Equal d_col) refl)

pub d_join_pairs : Level (k.Name ∷ []) (k.Dot ∷ k.And ∷ []) false join_pairs Parsers.read_join_pairs
unfolding Parsers.read_join_pairs
d_join_pairs = d_weaker _ _ (d_chain alone push d_join_pair (d_after k.And d_join_pair) refl refl) refl refl

pub d_join : Level (k.Inner ∷ k.Left ∷ k.Join ∷ []) (k.Dot ∷ k.And ∷ []) false join Parsers.read_join
unfolding Parsers.read_join
d_join = d_seen join_of (d_pair d_join_kind (d_pair (d_after k.Join d_name) (d_after k.On d_join_pairs) refl) refl)

pub d_joins : Level (k.Inner ∷ k.Left ∷ k.Join ∷ []) (k.Inner ∷ k.Left ∷ k.Join ∷ k.Dot ∷ k.And ∷ []) true (many join) Parsers.read_joins
unfolding Parsers.read_joins
d_joins = d_many d_join refl

pub d_number : Level (k.One ∷ k.Whole ∷ k.Number ∷ []) [] false number Parsers.read_number
unfolding Parsers.read_number
d_number = d_choice (d_token k.One) (d_choice (d_token k.Whole) (d_token k.Number) refl) refl

pub d_sign : Level (k.Plus ∷ k.Minus ∷ []) [] false sign Parsers.read_sign
unfolding Parsers.read_sign
d_sign = d_choice (d_seen plus_of (d_token k.Plus)) (d_seen minus_of (d_token k.Minus)) refl

pub d_lit : Level (k.Text ∷ k.Date ∷ k.Plus ∷ k.Minus ∷ k.One ∷ k.Whole ∷ k.Number ∷ []) [] false lit Parsers.read_lit
unfolding Parsers.read_lit Parsers.read_signed
d_lit = d_choice (d_seen text_of (d_token k.Text)) (d_choice (d_seen date_of (d_pair (d_token k.Date) (d_token k.Text) refl)) (d_seen number_of_signed (d_pair (d_optional d_sign) d_number refl)) refl) refl

pub d_lit_list : Level (k.Text ∷ k.Date ∷ k.Plus ∷ k.Minus ∷ k.One ∷ k.Whole ∷ k.Number ∷ []) (k.Comma ∷ []) false (list lit) Parsers.read_lit_list
unfolding Parsers.read_lit_list
d_lit_list = d_chain alone push d_lit (d_after k.Comma d_lit) refl refl

pub d_lits : Level (k.Open ∷ []) [] false lits Parsers.read_lits
unfolding Parsers.read_lits
d_lits = d_after k.Open (d_before k.Close d_lit_list refl)

abbrev pub comparisons : List Kind
comparisons = k.Equal ∷ k.NotEqual ∷ k.Less ∷ k.LessEqual ∷ k.Greater ∷ k.GreaterEqual ∷ []

pub d_comparison : Level comparisons [] false comparison Parsers.read_comparison
unfolding Parsers.read_comparison
d_comparison = d_choice (d_seen (test_of tests.Eq) (d_token k.Equal)) (d_choice (d_seen (test_of tests.Ne) (d_token k.NotEqual)) (d_choice (d_seen (test_of tests.Lt) (d_token k.Less)) (d_choice (d_seen (test_of tests.Le) (d_token k.LessEqual)) (d_choice (d_seen (test_of tests.Gt) (d_token k.Greater)) (d_seen (test_of tests.Ge) (d_token k.GreaterEqual)) refl) refl) refl) refl) refl

pub d_bounds : Level (k.Between ∷ []) [] false bounds Parsers.read_bounds
unfolding Parsers.read_bounds
d_bounds = d_after k.Between (d_pair d_lit (d_after k.And d_lit) refl)

pub d_test : Level (k.Equal ∷ k.NotEqual ∷ k.Less ∷ k.LessEqual ∷ k.Greater ∷ k.GreaterEqual ∷ k.In ∷ k.Between ∷ k.Not ∷ k.Is ∷ []) [] false test Parsers.read_test
unfolding Parsers.read_test Parsers.read_compare Parsers.read_negated Parsers.read_null
d_test =
    d_choice (d_seen compare_of (d_pair d_comparison d_lit refl))
    (d_choice (d_seen any_of (d_after k.In d_lits))
    (d_choice (d_seen between_of d_bounds)
    (d_choice (d_after k.Not (d_choice (d_seen none_of (d_after k.In d_lits)) (d_seen not_between_of d_bounds) refl))
    (d_after k.Is (d_seen null_of (d_pair (d_optional (d_place k.Not)) (d_place k.Null) refl))) refl) refl) refl) refl

pub d_basic : Level starts_term [] false basic Parsers.read_basic
unfolding Parsers.read_basic
d_basic = d_seen cond_of (d_pair d_term d_test refl)

abbrev pub starts_neg : List Kind
starts_neg = k.Not ∷ k.Open ∷ k.Name ∷ k.Count ∷ k.Sum ∷ k.Min ∷ k.Max ∷ k.Avg ∷ []

pub d_conj : (N : Rule SqlCond) (p : Reader SqlCond) (N' : Rule SqlCond) (p' : Reader SqlCond) → Deeper starts_neg [] false N p N' p' → Deeper starts_neg (k.And ∷ []) false (conj N) (Parsers.read_conj p) (conj N') (Parsers.read_conj p')
unfolding Parsers.read_conj
d_conj N p N' p' P = d_chain same_cond conds.And P (d_after k.And P) refl refl

pub d_disj : (N : Rule SqlCond) (p : Reader SqlCond) (N' : Rule SqlCond) (p' : Reader SqlCond) → Deeper starts_neg [] false N p N' p' → Deeper starts_neg (k.And ∷ k.Or ∷ k.And ∷ []) false (disj N) (Parsers.read_disj p) (disj N') (Parsers.read_disj p')
unfolding Parsers.read_disj
d_disj N p N' p' P = d_chain same_cond conds.Or (d_conj N p N' p' P) (d_after k.Or (d_conj N p N' p' P)) refl refl

-- NOT and an open parenthesis begin a condition one deeper
opens_neg : (t : Token) → heads (k.Not ∷ k.Open ∷ []) (t ∷ []) ≡ true → (neg 1).begins (t ∷ [])
unfolding neg
opens_neg t e =
    elim (or_cases (same t.kind k.Not) (same t.kind k.Open || false) e) [
      | inl a ↦ inl (inl (inr (t, (refl, a))))
      | inr a ↦ elim (or_cases (same t.kind k.Open) false a) [
        | inl b ↦ inr (inl (inl (inr (t, (refl, b)))))
        | inr b ↦ absurd cc
      ]
    ]

like_basic : (ts : List Token) → heads (k.Not ∷ k.Open ∷ []) ts ≡ false → Parsers.read_neg 1 ts ≡ Parsers.read_basic ts
unfolding Parsers.read_neg
like_basic [] e = refl
like_basic (t ∷ ts) e =
    let no_not : same t.kind k.Not ≡ false = or_left (same t.kind k.Not) (same t.kind k.Open || false) e in
    let no_open : same t.kind k.Open ≡ false = or_left (same t.kind k.Open) false (or_right (same t.kind k.Not) (same t.kind k.Open || false) e) in
    rw (no_not, no_open) refl

pub d_neg : (depth : ℕ) → Deeper starts_neg [] false (neg depth) (Parsers.read_neg depth) (neg (suc depth)) (Parsers.read_neg (suc depth))
unfolding neg Parsers.read_neg
d_neg zero = d_weaker starts_neg [] (d_barred bars.TooDeep (neg 1) (Parsers.read_neg 1) d_basic refl opens_neg (λ x a h. inr (inr h)) (λ a h. inr (inr h)) like_basic) refl refl
d_neg (suc depth) =
    d_choice (d_after k.Not (d_seen conds.Not (d_neg depth)))
    (d_choice (d_after k.Open (d_before k.Close (d_disj (neg depth) (Parsers.read_neg depth) (neg (suc depth)) (Parsers.read_neg (suc depth)) (d_neg depth)) refl)) d_basic refl) refl

pub d_filter : (depth : ℕ) → Deeper starts_neg (k.And ∷ k.Or ∷ k.And ∷ []) false (disj (neg depth)) (Parsers.read_filter depth) (disj (neg (suc depth))) (Parsers.read_filter (suc depth))
unfolding Parsers.read_filter
d_filter depth = d_disj (neg depth) (Parsers.read_neg depth) (neg (suc depth)) (Parsers.read_neg (suc depth)) (d_neg depth)

pub d_fall : Level (k.Asc ∷ k.Desc ∷ []) [] false (choice (seen rises (token k.Asc)) (seen falls (token k.Desc))) Parsers.read_fall
unfolding Parsers.read_fall
d_fall = d_choice (d_seen rises (d_token k.Asc)) (d_seen falls (d_token k.Desc)) refl

pub d_key : Level starts_term (k.Dot ∷ k.Asc ∷ k.Desc ∷ []) false key Parsers.read_key
unfolding Parsers.read_key
d_key = d_seen key_of (d_pair d_term (d_optional d_fall) refl)

opens_rows : (t : Token) → heads (k.Number ∷ []) (t ∷ []) ≡ true → (rows true).begins (t ∷ [])
unfolding rows
opens_rows t e =
    elim (or_cases (same t.kind k.Number) false e) [
      | inl a ↦ inr (inr (inr (t, (refl, a))))
      | inr a ↦ absurd cc
    ]

rows_spell : (n : ℕ) (a : List Token) → (rows false).spells n a → (rows true).spells n a
unfolding rows
rows_spell n a h = (h.0, h.1, elim h.2 [ inl s ↦ inl s | inr s ↦ inr (inl s) ])

rows_begin : (a : List Token) → (rows false).begins a → (rows true).begins a
unfolding rows
rows_begin a (inl h) = inl h
rows_begin a (inr h) = inr (inl h)

-- what is no number stops both alike
like_rows : (ts : List Token) → heads (k.Number ∷ []) ts ≡ false → Parsers.read_rows true ts ≡ Parsers.strict_rows ts
unfolding Parsers.read_rows Parsers.strict_rows
like_rows [] e = refl
like_rows (t ∷ ts) e = let not_number : same t.kind k.Number ≡ false = or_left (same t.kind k.Number) false e in
    elim (both_ways (same t.kind k.Whole)) [
      | inl a ↦ rw (not_number, a) refl
      | inr a ↦ rw (not_number, a) refl
    ]

abbrev rows_first : Bool → List Kind
rows_first true = k.One ∷ k.Whole ∷ k.Number ∷ []
rows_first false = k.One ∷ k.Whole ∷ []

d_strict : Level (k.One ∷ k.Whole ∷ []) [] false (rows false) Parsers.strict_rows
unfolding rows Parsers.strict_rows
d_strict = d_seen rows_of (d_choice (d_token k.One) (d_token k.Whole) refl)

pub d_rows : (loose : Bool) → Deeper (rows_first loose) [] false (rows loose) (Parsers.read_rows loose) (rows true) (Parsers.read_rows true)
unfolding rows Parsers.read_rows
d_rows true = d_seen rows_of (d_choice (d_token k.One) (d_choice (d_token k.Whole) (d_token k.Number) refl) refl)
d_rows false = d_barred bars.BadNumber (rows true) (Parsers.read_rows true) d_strict refl opens_rows rows_spell rows_begin like_rows

pub d_limit : (loose : Bool) → Deeper (k.Limit ∷ []) [] false (limit loose) (Parsers.read_limit loose) (limit true) (Parsers.read_limit true)
unfolding Parsers.read_limit
d_limit loose = d_after k.Limit (d_rows loose)

pub d_cols : Level (k.Name ∷ []) (k.Dot ∷ k.Comma ∷ []) false (list col) Parsers.read_cols
unfolding Parsers.read_cols
d_cols = d_weaker _ _ (d_chain alone push d_col (d_after k.Comma d_col) refl refl) refl refl

pub d_keys : Level starts_term (k.Dot ∷ k.Asc ∷ k.Desc ∷ k.Comma ∷ []) false (list key) Parsers.read_keys
unfolding Parsers.read_keys
d_keys = d_weaker _ _ (d_chain alone push d_key (d_after k.Comma d_key) refl refl) refl refl

pub d_grouping : Level (k.Group ∷ []) (k.Group ∷ k.Dot ∷ k.Comma ∷ []) true grouping Parsers.read_grouping
unfolding Parsers.read_grouping
d_grouping = d_seen or_none (d_optional (d_after k.Group (d_after k.By d_cols)))

pub d_ordering : Level (k.Order ∷ []) (k.Order ∷ k.Dot ∷ k.Asc ∷ k.Desc ∷ k.Comma ∷ []) true ordering Parsers.read_ordering
unfolding Parsers.read_ordering
d_ordering = d_seen or_none (d_optional (d_after k.Order (d_after k.By d_keys)))

abbrev pub after_query : List Kind
after_query = k.Inner ∷ k.Left ∷ k.Join ∷ k.Dot ∷ k.And ∷ k.Or ∷ k.Where ∷ k.Group ∷ k.Having ∷ k.Order ∷ k.Asc ∷ k.Desc ∷ k.Comma ∷ k.Limit ∷ k.Semicolon ∷ []

pub d_query : (depth : ℕ) (loose : Bool) → Deeper (k.Select ∷ []) after_query false (query depth loose) (Parsers.read_query depth loose) (query (suc depth) true) (Parsers.read_query (suc depth) true)
unfolding query Parsers.read_query
d_query depth loose =
    d_weaker (k.Select ∷ []) after_query
    (d_seen query_of
    (d_pair (d_after k.Select d_items)
    (d_pair (d_after k.From d_name)
    (d_pair d_joins
    (d_pair (d_optional (d_after k.Where (d_filter depth)))
    (d_pair d_grouping
    (d_pair (d_optional (d_after k.Having (d_filter depth)))
    (d_pair d_ordering
    (d_pair (d_optional (d_limit loose)) (d_optional (d_place k.Semicolon)) refl)
    refl) refl) refl) refl) refl) refl) refl))
    refl refl

-- ---- what the loops cite

pub exact_neg : (depth : ℕ) → Exact starts_neg [] false (neg depth) (Parsers.read_neg depth)
exact_neg depth = (d_neg depth).exact

pub exact_conj : (depth : ℕ) → Exact starts_neg (k.And ∷ []) false (conj (neg depth)) (Parsers.read_conj (Parsers.read_neg depth))
exact_conj depth = (d_conj (neg depth) (Parsers.read_neg depth) (neg (suc depth)) (Parsers.read_neg (suc depth)) (d_neg depth)).exact
