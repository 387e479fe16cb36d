-- Rules of a grammar. A rule says which lists of tokens spell a value, and which lists begin it: the empty list
-- begins every rule, a list begins a sequence where it begins the first part, or is a spelling of the first part
-- followed by a list that begins the rest, and so on by cases. No completion is sought.
use Rattle.std.specs.Prelude.{◌≡◌, true, List, [], ◌∷◌, ◌++◌, Option, Some, None, ◌⊎◌}
use Rattle.sql_tokens.specs.declared.kind.Kind.{Kind}
use Rattle.sql_tokens.specs.declared.token.Token.{Token}
use Rattle.sql_reader.specs.Kinds.{same}

pub record Rule (A : Type 0) : Type 1 where
  pub spells : A → List Token → Type 0
  pub begins : List Token → Type 0

-- one token of this kind
abbrev pub IsToken : Kind → Token → List Token → Type 0
IsToken k t ts = (ts ≡ t ∷ []) × (same t.kind k ≡ true)

abbrev pub token : Kind → Rule Token
token k = record {
  spells = IsToken k;
  begins = λ ts. (ts ≡ []) ⊎ ((t : Token) × IsToken k t ts);
}

-- what the first rule spells, and behind it what the second one spells
abbrev pub IsPair : {A B : Type 0} → (A → List Token → Type 0) → (B → List Token → Type 0) → A × B → List Token → Type 0
IsPair S T x ts = (a : List Token) × (b : List Token) × (ts ≡ a ++ b) × S x.0 a × T x.1 b

abbrev pub pair : {A B : Type 0} → Rule A → Rule B → Rule (A × B)
pair R S = record {
  spells = IsPair R.spells S.spells;
  begins = λ ts. R.begins ts ⊎ ((x : _) × (a : List Token) × (b : List Token) × (ts ≡ a ++ b) × R.spells x a × S.begins b);
}

-- either rule
abbrev pub choice : {A : Type 0} → Rule A → Rule A → Rule A
choice R S = record {
  spells = λ x ts. R.spells x ts ⊎ S.spells x ts;
  begins = λ ts. R.begins ts ⊎ S.begins ts;
}

-- the rule, or nothing
abbrev pub IsOptional : {A : Type 0} → (A → List Token → Type 0) → Option A → List Token → Type 0
IsOptional S None ts = ts ≡ []
IsOptional S (Some x) ts = S x ts

abbrev pub optional : {A : Type 0} → Rule A → Rule (Option A)
optional R = record {
  spells = IsOptional R.spells;
  begins = λ ts. (ts ≡ []) ⊎ R.begins ts;
}

-- the rule any number of times, also none
abbrev pub IsMany : {A : Type 0} → (A → List Token → Type 0) → List A → List Token → Type 0
IsMany S [] ts = ts ≡ []
IsMany S (x ∷ xs) ts = (a : List Token) × (b : List Token) × (ts ≡ a ++ b) × S x a × IsMany S xs b

abbrev pub many : {A : Type 0} → Rule A → Rule (List A)
many R = record {
  spells = IsMany R.spells;
  begins = λ ts. (xs : _) × (a : List Token) × (b : List Token) × (ts ≡ a ++ b) × IsMany R.spells xs a × R.begins b;
}

-- the value seen otherwise
abbrev pub seen : {A B : Type 0} → (A → B) → Rule A → Rule B
seen f R = record {
  spells = λ y ts. (x : _) × (f x ≡ y) × R.spells x ts;
  begins = R.begins;
}
