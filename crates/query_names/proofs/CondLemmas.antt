-- What the terms and the pairs of a condition give, from those of its parts.
use Rattle.std.proofs.Common.{◌≡◌, ℕ, List, ◌++◌, map, Option, sym, ap, ◌∙◌, refl}
use Rattle.std.specs.List.{flat_map}
use Rattle.std.proofs.lemmas.List.Folds.{flat_map-map}
use Rattle.sql_reader.specs.declared.tree.SqlCond.{SqlCond, fold-SqlCond, fold-roll-SqlCond}
use Rattle.sql_reader.specs.declared.tree.SqlCond.TheOpen.{SqlCond-F}
use Rattle.sql_reader.specs.declared.tree.SqlCond.TheVariants as conds
use Rattle.sql_reader.specs.declared.tree.SqlLit.{SqlLit}
use Rattle.sql_reader.specs.declared.tree.SqlTerm.{SqlTerm}
use Rattle.query_names.specs.Least.{lesser, least}
use Rattle.query_names.specs.Parts.{terms_step, cond_terms, pairs_step, cond_pairs}
use Rattle.query_names.proofs.LeastLemmas.{least_flat}

-- ---- a function of a condition, at some of its forms

module _ {A : Type 0} (step : SqlCond-F A → A) where
  pub at_any_of : (t : SqlTerm) (ls : List SqlLit) → fold-SqlCond A step (conds.AnyOf t ls) ≡ step (SqlCond-F.AnyOf t ls)
  at_any_of t ls = ap (fold-SqlCond A step) (sym (conds.rolls-AnyOf t ls)) ∙ fold-roll-SqlCond A step (SqlCond-F.AnyOf t ls)

  pub at_and : (a b : SqlCond) → fold-SqlCond A step (conds.And a b) ≡ step (SqlCond-F.And (fold-SqlCond A step a) (fold-SqlCond A step b))
  at_and a b = ap (fold-SqlCond A step) (sym (conds.rolls-And a b)) ∙ fold-roll-SqlCond A step (SqlCond-F.And a b)

  pub at_or : (a b : SqlCond) → fold-SqlCond A step (conds.Or a b) ≡ step (SqlCond-F.Or (fold-SqlCond A step a) (fold-SqlCond A step b))
  at_or a b = ap (fold-SqlCond A step) (sym (conds.rolls-Or a b)) ∙ fold-roll-SqlCond A step (SqlCond-F.Or a b)

-- ---- the least place, of two parts

two : {X : Type 0} (f : X → List ℕ) (of : SqlCond → List X) (given a b a' b' : SqlCond) (p q : Option ℕ) → of given ≡ of a ++ of b → a' ≡ a → b' ≡ b
    → p ≡ least (flat_map f (of a')) → q ≡ least (flat_map f (of b')) → lesser p q ≡ least (flat_map f (of given))
two f of given a b a' b' p q e ea eb pe qe = rw (pe, qe, ea, eb, e, least_flat f (of a) (of b)) refl

pub terms_of_and : (f : SqlTerm → List ℕ) (given a b a' b' : SqlCond) (p q : Option ℕ) → given ≡ conds.And a b → a' ≡ a → b' ≡ b
    → p ≡ least (flat_map f (cond_terms a')) → q ≡ least (flat_map f (cond_terms b')) → lesser p q ≡ least (flat_map f (cond_terms given))
terms_of_and f given a b a' b' p q e ea eb pe qe = two f cond_terms given a b a' b' p q (ap cond_terms e ∙ at_and terms_step a b) ea eb pe qe

pub terms_of_or : (f : SqlTerm → List ℕ) (given a b a' b' : SqlCond) (p q : Option ℕ) → given ≡ conds.Or a b → a' ≡ a → b' ≡ b
    → p ≡ least (flat_map f (cond_terms a')) → q ≡ least (flat_map f (cond_terms b')) → lesser p q ≡ least (flat_map f (cond_terms given))
terms_of_or f given a b a' b' p q e ea eb pe qe = two f cond_terms given a b a' b' p q (ap cond_terms e ∙ at_or terms_step a b) ea eb pe qe

pub pairs_of_and : (f : SqlTerm × SqlLit → List ℕ) (given a b a' b' : SqlCond) (p q : Option ℕ) → given ≡ conds.And a b → a' ≡ a → b' ≡ b
    → p ≡ least (flat_map f (cond_pairs a')) → q ≡ least (flat_map f (cond_pairs b')) → lesser p q ≡ least (flat_map f (cond_pairs given))
pairs_of_and f given a b a' b' p q e ea eb pe qe = two f cond_pairs given a b a' b' p q (ap cond_pairs e ∙ at_and pairs_step a b) ea eb pe qe

pub pairs_of_or : (f : SqlTerm × SqlLit → List ℕ) (given a b a' b' : SqlCond) (p q : Option ℕ) → given ≡ conds.Or a b → a' ≡ a → b' ≡ b
    → p ≡ least (flat_map f (cond_pairs a')) → q ≡ least (flat_map f (cond_pairs b')) → lesser p q ≡ least (flat_map f (cond_pairs given))
pairs_of_or f given a b a' b' p q e ea eb pe qe = two f cond_pairs given a b a' b' p q (ap cond_pairs e ∙ at_or pairs_step a b) ea eb pe qe

-- ---- the least place, of a list of literals

pub pairs_of_any : (f : SqlTerm × SqlLit → List ℕ) (given : SqlCond) (t : SqlTerm) (ls ls' : List SqlLit) (p : Option ℕ) → given ≡ conds.AnyOf t ls → ls' ≡ ls
    → p ≡ least (flat_map (λ l. f (t, l)) ls') → p ≡ least (flat_map f (cond_pairs given))
pairs_of_any f given t ls ls' p e el pe =
    let all : cond_pairs given ≡ map (λ l. (t, l)) ls = ap cond_pairs e ∙ at_any_of pairs_step t ls in
    pe ∙ rw (el, all, flat_map-map f (λ l. (t, l)) ls) refl
