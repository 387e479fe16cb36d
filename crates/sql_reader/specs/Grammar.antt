-- The grammar. The rules of conditions take how deep open parentheses and NOT may nest.
use Rattle.std.specs.Prelude.{ℕ, zero, suc, Bool, true, false, List, [], ◌∷◌, ◌++◌, Option, Some, None, option_map}
use Rattle.sql_tokens.specs.declared.kind.Kind.{Kind}
use Rattle.sql_tokens.specs.declared.kind.Kind.TheVariants as k
use Rattle.sql_tokens.specs.declared.token.Token.{Token}
use Rattle.sql_reader.specs.declared.tree.Name.{Name}
use Rattle.sql_reader.specs.declared.tree.ColRef.{ColRef}
use Rattle.sql_reader.specs.declared.tree.AggWord.{AggWord}
use Rattle.sql_reader.specs.declared.tree.SqlTerm.{SqlTerm}
use Rattle.sql_reader.specs.declared.tree.Item.{Item}
use Rattle.sql_reader.specs.declared.tree.JoinKind.{JoinKind}
use Rattle.sql_reader.specs.declared.tree.JoinPair.{JoinPair}
use Rattle.sql_reader.specs.declared.tree.Join.{Join}
use Rattle.sql_reader.specs.declared.parts.Sign.{Sign}
use Rattle.sql_reader.specs.declared.tree.SqlTest.{SqlTest}
use Rattle.sql_reader.specs.declared.tree.SqlLit.{SqlLit}
use Rattle.sql_reader.specs.declared.parts.Tail.{Tail}
use Rattle.sql_reader.specs.declared.tree.SqlCond.{SqlCond}
use Rattle.sql_reader.specs.declared.tree.SqlKey.{SqlKey}
use Rattle.sql_reader.specs.declared.tree.Query.{Query}
use Rattle.sql_reader.specs.declared.tree.AggWord.TheVariants as words
use Rattle.sql_reader.specs.declared.tree.SqlTerm.TheVariants as terms
use Rattle.sql_reader.specs.declared.tree.JoinKind.TheVariants as joinkinds
use Rattle.sql_reader.specs.declared.tree.SqlTest.TheVariants as tests
use Rattle.sql_reader.specs.declared.tree.SqlLitKind.TheVariants as litkinds
use Rattle.sql_reader.specs.declared.parts.Tail.TheVariants as tails
use Rattle.sql_reader.specs.declared.tree.SqlCond.TheVariants as conds
use Rattle.sql_tokens.specs.Payloads.{name_in, rows_in, signed, text_in, units_in}
use Rattle.sql_reader.specs.Rules.{Rule, token, pair, choice, optional, many, seen}

-- the second value alone, and the first one alone
abbrev pub second : {A B : Type 0} → A × B → B
second x = x.1

abbrev pub front : {A B : Type 0} → A × B → A
front x = x.0

infixr 20 ◌▹◌
abbrev pub ◌▹◌ : {A : Type 0} → Kind → Rule A → Rule A
k ▹ R = seen second (pair (token k) R)

infixl 21 ◌◃◌
abbrev pub ◌◃◌ : {A : Type 0} → Rule A → Kind → Rule A
R ◃ k = seen front (pair R (token k))

-- a first part, and then more parts, each taken in by f
abbrev pub fold : {A B : Type 0} → (B → A → B) → B → List A → B
fold f b [] = b
fold f b (x ∷ xs) = fold f (f b x) xs

abbrev pub folded : {A B C : Type 0} → (A → C) → (C → B → C) → A × List B → C
folded g f x = fold f (g x.0) x.1

abbrev pub chain : {A B C : Type 0} → (A → C) → (C → B → C) → Rule A → Rule B → Rule C
chain g f R S = seen (folded g f) (pair R (many S))

abbrev pub alone : {A : Type 0} → A → List A
alone x = x ∷ []

abbrev pub push : {A : Type 0} → List A → A → List A
push xs x = xs ++ x ∷ []

-- R {"," R}
abbrev pub list : {A : Type 0} → Rule A → Rule (List A)
list R = chain alone push R (k.Comma ▹ R)

-- ---- names and columns

abbrev pub place_of : Token → ℕ
place_of t = t.place

abbrev pub name_of : Token → Name
name_of t = record { place = t.place; text = name_in t.payload }

abbrev pub name : Rule Name
name = seen name_of (token k.Name)

abbrev pub col_of : Name × Option Name → ColRef
col_of (n, None) = record { table = None; column = n }
col_of (n, Some c) = record { table = Some n; column = c }

abbrev pub col : Rule ColRef
col = seen col_of (pair name (optional (k.Dot ▹ name)))

-- ---- terms

abbrev pub counts_rows : Token → AggWord × Option ColRef
counts_rows t = (words.CountRows, None)

abbrev pub counts_distinct : ColRef → AggWord × Option ColRef
counts_distinct c = (words.CountDistinct, Some c)

abbrev pub counts_column : ColRef → AggWord × Option ColRef
counts_column c = (words.CountColumn, Some c)

abbrev pub counted : Rule (AggWord × Option ColRef)
counted = choice (seen counts_rows (token k.Star)) (choice (seen counts_rows (token k.One)) (choice (k.Distinct ▹ seen counts_distinct col) (seen counts_column col)))

abbrev pub agg_of : Token × (AggWord × Option ColRef) → SqlTerm
agg_of x = terms.Agg x.0.place x.1.0 x.1.1

abbrev pub count : Rule SqlTerm
count = seen agg_of (pair (token k.Count) (k.Open ▹ (counted ◃ k.Close)))

abbrev pub with_word : AggWord → ColRef → AggWord × Option ColRef
with_word w c = (w, Some c)

abbrev pub measure : Kind → AggWord → Rule SqlTerm
measure m w = seen agg_of (pair (token m) (k.Open ▹ (seen (with_word w) col ◃ k.Close)))

abbrev pub column_of : ColRef → SqlTerm
column_of c = terms.Col c

abbrev pub term : Rule SqlTerm
term = choice (seen column_of col) (choice count (choice (measure k.Sum words.Sum) (choice (measure k.Min words.Min) (choice (measure k.Max words.Max) (measure k.Avg words.Avg)))))

-- ---- items

abbrev pub text_of_name : Name → List ℕ
text_of_name n = n.text

abbrev pub item_of : SqlTerm × Option Name → Item
item_of x = record { term = x.0; alias = option_map text_of_name x.1 }

abbrev pub alias : Rule Name
alias = choice (k.As ▹ name) name

abbrev pub item : Rule Item
item = seen item_of (pair term (optional alias))

-- ---- joins

abbrev pub is_inner : Token → JoinKind
is_inner t = joinkinds.Inner

abbrev pub is_left : Option ℕ → JoinKind
is_left t = joinkinds.Left

abbrev pub or_inner : Option JoinKind → JoinKind
or_inner None = joinkinds.Inner
or_inner (Some j) = j

abbrev pub join_kind : Rule JoinKind
join_kind = seen or_inner (optional (choice (seen is_inner (token k.Inner)) (k.Left ▹ seen is_left (optional (seen place_of (token k.Outer))))))

abbrev pub pair_of : ColRef × ColRef → JoinPair
pair_of x = record { left = x.0; right = x.1 }

abbrev pub join_pair : Rule JoinPair
join_pair = seen pair_of (pair col (k.Equal ▹ col))

abbrev pub join_pairs : Rule (List JoinPair)
join_pairs = chain alone push join_pair (k.And ▹ join_pair)

abbrev pub join_of : JoinKind × (Name × List JoinPair) → Join
join_of x = record { kind = x.0; table = x.1.0; pairs = x.1.1 }

abbrev pub join : Rule Join
join = seen join_of (pair join_kind (pair (k.Join ▹ name) (k.On ▹ join_pairs)))

-- ---- literals

abbrev pub number : Rule Token
number = choice (token k.One) (choice (token k.Whole) (token k.Number))

abbrev pub plus_of : Token → Sign
plus_of t = record { negative = false; place = t.place }

abbrev pub minus_of : Token → Sign
minus_of t = record { negative = true; place = t.place }

abbrev pub sign : Rule Sign
sign = choice (seen plus_of (token k.Plus)) (seen minus_of (token k.Minus))

abbrev pub number_of_signed : Option Sign × Token → SqlLit
number_of_signed (None, t) = record { place = t.place; kind = litkinds.Number (signed false (units_in t.payload)) }
number_of_signed (Some s, t) = record { place = s.place; kind = litkinds.Number (signed s.negative (units_in t.payload)) }

abbrev pub text_of : Token → SqlLit
text_of t = record { place = t.place; kind = litkinds.Text (text_in t.payload) }

abbrev pub date_of : Token × Token → SqlLit
date_of x = record { place = x.0.place; kind = litkinds.Date (text_in x.1.payload) }

abbrev pub lit : Rule SqlLit
lit = choice (seen text_of (token k.Text)) (choice (seen date_of (pair (token k.Date) (token k.Text))) (seen number_of_signed (pair (optional sign) number)))

abbrev pub lits : Rule (List SqlLit)
lits = k.Open ▹ (list lit ◃ k.Close)

-- ---- tests

abbrev pub test_of : SqlTest → Token → SqlTest
test_of x t = x

abbrev pub comparison : Rule SqlTest
comparison = choice (seen (test_of tests.Eq) (token k.Equal)) (choice (seen (test_of tests.Ne) (token k.NotEqual)) (choice (seen (test_of tests.Lt) (token k.Less)) (choice (seen (test_of tests.Le) (token k.LessEqual)) (choice (seen (test_of tests.Gt) (token k.Greater)) (seen (test_of tests.Ge) (token k.GreaterEqual))))))

abbrev pub compare_of : SqlTest × SqlLit → Tail
compare_of x = tails.Compare x.0 x.1

abbrev pub any_of : List SqlLit → Tail
any_of ls = tails.AnyOf ls

abbrev pub none_of : List SqlLit → Tail
none_of ls = tails.NoneOf ls

abbrev pub between_of : SqlLit × SqlLit → Tail
between_of x = tails.Between x.0 x.1

abbrev pub not_between_of : SqlLit × SqlLit → Tail
not_between_of x = tails.NotBetween x.0 x.1

abbrev pub null_of : Option ℕ × ℕ → Tail
null_of (None, t) = tails.IsNull
null_of (Some n, t) = tails.IsNotNull

abbrev pub bounds : Rule (SqlLit × SqlLit)
bounds = k.Between ▹ pair lit (k.And ▹ lit)

abbrev pub test : Rule Tail
test =
    choice (seen compare_of (pair comparison lit))
    (choice (seen any_of (k.In ▹ lits))
    (choice (seen between_of bounds)
    (choice (k.Not ▹ choice (seen none_of (k.In ▹ lits)) (seen not_between_of bounds))
    (k.Is ▹ seen null_of (pair (optional (seen place_of (token k.Not))) (seen place_of (token k.Null)))))))

-- ---- conditions

abbrev pub cond_of : SqlTerm × Tail → SqlCond
cond_of (t, tails.Compare x l) = conds.Compare t x l
cond_of (t, tails.AnyOf ls) = conds.AnyOf t ls
cond_of (t, tails.NoneOf ls) = conds.Not (conds.AnyOf t ls)
cond_of (t, tails.Between a b) = conds.Between t a b
cond_of (t, tails.NotBetween a b) = conds.Not (conds.Between t a b)
cond_of (t, tails.IsNull) = conds.IsNull t
cond_of (t, tails.IsNotNull) = conds.Not (conds.IsNull t)

abbrev pub basic : Rule SqlCond
basic = seen cond_of (pair term test)

abbrev pub same_cond : SqlCond → SqlCond
same_cond c = c

abbrev pub conj : Rule SqlCond → Rule SqlCond
conj neg = chain same_cond conds.And neg (k.And ▹ neg)

abbrev pub disj : Rule SqlCond → Rule SqlCond
disj neg = chain same_cond conds.Or (conj neg) (k.Or ▹ conj neg)

abbrev pub deeper : Rule SqlCond → Rule SqlCond
deeper neg = choice (k.Not ▹ seen conds.Not neg) (choice (k.Open ▹ (disj neg ◃ k.Close)) basic)

unfoldable pub neg : ℕ → Rule SqlCond
neg zero = basic
neg (suc depth) = deeper (neg depth)

-- ---- queries

abbrev pub is_falling : Option Bool → Bool
is_falling None = false
is_falling (Some b) = b

abbrev pub rises : Token → Bool
rises t = false

abbrev pub falls : Token → Bool
falls t = true

abbrev pub key_of : SqlTerm × Option Bool → SqlKey
key_of x = record { term = x.0; falling = is_falling x.1 }

abbrev pub key : Rule SqlKey
key = seen key_of (pair term (optional (choice (seen rises (token k.Asc)) (seen falls (token k.Desc)))))

abbrev pub rows_of : Token → ℕ
rows_of t = rows_in t.payload

-- a whole number of at most nine digits; where it is read loosely, any number
unfoldable pub rows : Bool → Rule ℕ
rows true = seen rows_of (choice (token k.One) (choice (token k.Whole) (token k.Number)))
rows false = seen rows_of (choice (token k.One) (token k.Whole))

abbrev pub limit : Bool → Rule ℕ
limit loose = k.Limit ▹ rows loose

abbrev pub or_none : {A : Type 0} → Option (List A) → List A
or_none None = []
or_none (Some xs) = xs

abbrev pub grouping : Rule (List ColRef)
grouping = seen or_none (optional (k.Group ▹ k.By ▹ list col))

abbrev pub ordering : Rule (List SqlKey)
ordering = seen or_none (optional (k.Order ▹ k.By ▹ list key))

abbrev pub Parts : Type 0
Parts = List Item × (Name × (List Join × (Option SqlCond × (List ColRef × (Option SqlCond × (List SqlKey × (Option ℕ × Option ℕ)))))))

abbrev pub query_of : Parts → Query
query_of x = record { items = x.0; table = x.1.0; joins = x.1.1.0; filter = x.1.1.1.0; group = x.1.1.1.1.0; having = x.1.1.1.1.1.0; order = x.1.1.1.1.1.1.0; limit = x.1.1.1.1.1.1.1.0 }

unfoldable pub query : ℕ → Bool → Rule Query
query depth loose =
    seen query_of
    (pair (k.Select ▹ list item)
    (pair (k.From ▹ name)
    (pair (many join)
    (pair (optional (k.Where ▹ disj (neg depth)))
    (pair grouping
    (pair (optional (k.Having ▹ disj (neg depth)))
    (pair ordering
    (pair (optional (limit loose)) (optional (seen place_of (token k.Semicolon)))))))))))
