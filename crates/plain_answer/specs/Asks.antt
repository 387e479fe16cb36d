-- Which asks have a meaning in the query language.
use Rattle.std.specs.Prelude.{◌≡◌, ◌<◌, ◌⊎◌, ⊤, ℕ, List, [], ◌∷◌, ◌++◌, length, map, All, Contains, IsSome}
use Rattle.cube_val.specs.declared.val.ColType.{ColType}
use Rattle.cube_val.specs.declared.val.ColType.TheVariants as ty
use Rattle.measure_laws.specs.declared.kinds.ItemKind.{ItemKind}
use Rattle.measure_laws.specs.declared.kinds.ItemKind.TheVariants.{Rows, Values, Numbers, Ids}
use Rattle.measure_laws.specs.Kinds.{item_kind}
use Rattle.plain_answer.specs.declared.ask.Agg.{Agg}
use Rattle.plain_answer.specs.declared.ask.AggKind.{AggKind}
use Rattle.plain_answer.specs.declared.ask.AggKind.TheVariants as kind
use Rattle.plain_answer.specs.declared.ask.Ask.{Ask}
use Rattle.plain_answer.specs.declared.cond.Cond.{Cond, fold-Cond}
use Rattle.plain_answer.specs.declared.cond.Cond.TheOpen.{Cond-F}
use Rattle.plain_answer.specs.declared.cond.Lit.{Lit}
use Rattle.plain_answer.specs.declared.cond.Lit.TheVariants.{Number, Text}
use Rattle.plain_answer.specs.declared.cond.Term.{Term}
use Rattle.plain_answer.specs.declared.cond.Term.TheVariants.{Col, Agg as Agg'}
use Rattle.plain_answer.specs.Kinds.{form_of_kind}

-- ---- the parts of a condition

abbrev pub terms_step : Cond-F (List Term) → List Term
terms_step Cond-F.True = []
terms_step (Cond-F.Compare term test lit) = term ∷ []
terms_step (Cond-F.AnyOf term lits) = term ∷ []
terms_step (Cond-F.IsNull term) = term ∷ []
terms_step (Cond-F.And a b) = a ++ b
terms_step (Cond-F.Or a b) = a ++ b
terms_step (Cond-F.Not a) = a

-- the terms that a condition names
abbrev pub terms_of : Cond → List Term
terms_of = fold-Cond (List Term) terms_step

abbrev pub pairs_step : Cond-F (List (Term × Lit)) → List (Term × Lit)
pairs_step Cond-F.True = []
pairs_step (Cond-F.Compare term test lit) = (term, lit) ∷ []
pairs_step (Cond-F.AnyOf term lits) = map (λ lit. (term, lit)) lits
pairs_step (Cond-F.IsNull term) = []
pairs_step (Cond-F.And a b) = a ++ b
pairs_step (Cond-F.Or a b) = a ++ b
pairs_step (Cond-F.Not a) = a

-- the terms that a condition compares, each with its literal
abbrev pub pairs_of : Cond → List (Term × Lit)
pairs_of = fold-Cond (List (Term × Lit)) pairs_step

-- ---- what is asked of the parts

-- a column of the type has numbers
abbrev pub HasNumbers : ColType → Type 0
HasNumbers ty.Int = ⊤
HasNumbers ty.Decimal = ⊤
HasNumbers ty.Text = ⊥
HasNumbers ty.Date = ⊥

-- a column of the type has items of the kind
abbrev pub TakesItems : ItemKind → ColType → Type 0
TakesItems Rows t = ⊤
TakesItems Values t = ⊤
TakesItems Numbers t = HasNumbers t
TakesItems Ids t = ⊤

-- an aggregate of the kind may stand over a column of the type
abbrev pub TakesType : AggKind → ColType → Type 0
TakesType kind t = TakesItems (item_kind (form_of_kind kind)) t

-- all but a count of rows name a column, and those that work with numbers one of numbers
abbrev pub IsSoundAgg : Agg → Type 0
IsSoundAgg agg = (agg.kind ≡ kind.Count) ⊎ (IsSome agg.column × TakesType agg.kind agg.ty)

-- a column, and no aggregate
abbrev pub IsColumn : Term → Type 0
IsColumn (Col column t) = ⊤
IsColumn (Agg' number) = ⊥

-- a group column, or one of the ask's aggregates
abbrev pub IsOfGroup : List ℕ → List Agg → Term → Type 0
IsOfGroup columns aggs (Col column t) = Contains columns column
IsOfGroup columns aggs (Agg' number) = number < length aggs

-- a text stands exactly at a column of texts or dates
abbrev pub IsLitOf : Term → Lit → Type 0
IsLitOf (Col column t) (Number n) = HasNumbers t
IsLitOf (Col column t) (Text text) = HasNumbers t → ⊥
IsLitOf (Agg' number) (Number n) = ⊤
IsLitOf (Agg' number) (Text t) = ⊥

-- ---- the ask

-- an ask has a meaning in the query language
pub record IsSound (ask : Ask) : Type 0 where
  pub aggregates : All IsSoundAgg ask.aggs
  pub filter_columns : All IsColumn (terms_of ask.filter)
  pub filter_literals : All (λ pair. IsLitOf pair.0 pair.1) (pairs_of ask.filter)
  pub having_terms : All (IsOfGroup ask.group ask.aggs) (terms_of ask.having)
  pub having_literals : All (λ pair. IsLitOf pair.0 pair.1) (pairs_of ask.having)
  pub outs : All (λ out. IsOfGroup ask.group ask.aggs out.term) ask.outs
  pub order : All (λ key. IsOfGroup ask.group ask.aggs key.term) ask.order
