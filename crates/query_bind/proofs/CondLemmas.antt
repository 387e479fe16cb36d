-- The terms and pairs of a bound condition are those of the condition, bound.
use Rattle.std.proofs.Common.{◌≡◌, List, [], ◌∷◌, map, sym, ap, ◌∙◌, subst}
use Rattle.std.specs.List.{AllByRecursion as Each}
use Rattle.cube_desc.specs.Cube.{Cube}
use Rattle.sql_reader.specs.declared.tree.Query.{Query}
use Rattle.sql_reader.specs.declared.tree.SqlLit.{SqlLit}
use Rattle.sql_reader.specs.declared.tree.SqlTerm.{SqlTerm}
use Rattle.sql_reader.specs.declared.tree.SqlCond.{SqlCond, fold-roll-SqlCond, ind-SqlCond, roll-SqlCond, map-SqlCond}
use Rattle.sql_reader.specs.declared.tree.SqlCond.TheOpen.{SqlCond-F}
use Rattle.plain_answer.specs.declared.ask.Agg.{Agg}
use Rattle.plain_answer.specs.declared.cond.Cond.{Cond, fold-Cond, fold-roll-Cond}
use Rattle.plain_answer.specs.declared.cond.Cond.TheOpen.{Cond-F}
use Rattle.plain_answer.specs.declared.cond.Cond.TheVariants as cond
use Rattle.plain_answer.specs.declared.cond.Lit.{Lit}
use Rattle.plain_answer.specs.declared.cond.Term.{Term}
use Rattle.plain_answer.specs.declared.cond.Test.{Test}
use Rattle.plain_answer.specs.declared.cond.Test.TheVariants as test
use Rattle.plain_answer.specs.Asks.{terms_step, terms_of, pairs_step, pairs_of}
use Rattle.query_names.specs.Parts as sql
use Rattle.query_bind.specs.Asks.{bound_term, bound_test, bound_lit, bound_step, bound_cond}
use Rattle.query_bind.proofs.EachLemmas.{front, back, joined}

-- ---- functions of a condition, at each of its forms

module _ {A : Type 0} (step : Cond-F A → A) where
  pub at_true : fold-Cond A step cond.True ≡ step Cond-F.True
  at_true = ap (fold-Cond A step) (sym cond.rolls-True) ∙ fold-roll-Cond A step Cond-F.True

  pub at_compare : (t : Term) (o : Test) (l : Lit) → fold-Cond A step (cond.Compare t o l) ≡ step (Cond-F.Compare t o l)
  at_compare t o l = ap (fold-Cond A step) (sym (cond.rolls-Compare t o l)) ∙ fold-roll-Cond A step (Cond-F.Compare t o l)

  pub at_any_of : (t : Term) (ls : List Lit) → fold-Cond A step (cond.AnyOf t ls) ≡ step (Cond-F.AnyOf t ls)
  at_any_of t ls = ap (fold-Cond A step) (sym (cond.rolls-AnyOf t ls)) ∙ fold-roll-Cond A step (Cond-F.AnyOf t ls)

  pub at_is_null : (t : Term) → fold-Cond A step (cond.IsNull t) ≡ step (Cond-F.IsNull t)
  at_is_null t = ap (fold-Cond A step) (sym (cond.rolls-IsNull t)) ∙ fold-roll-Cond A step (Cond-F.IsNull t)

  pub at_and : (a b : Cond) → fold-Cond A step (cond.And a b) ≡ step (Cond-F.And (fold-Cond A step a) (fold-Cond A step b))
  at_and a b = ap (fold-Cond A step) (sym (cond.rolls-And a b)) ∙ fold-roll-Cond A step (Cond-F.And a b)

  pub at_or : (a b : Cond) → fold-Cond A step (cond.Or a b) ≡ step (Cond-F.Or (fold-Cond A step a) (fold-Cond A step b))
  at_or a b = ap (fold-Cond A step) (sym (cond.rolls-Or a b)) ∙ fold-roll-Cond A step (Cond-F.Or a b)

  pub at_not : (a : Cond) → fold-Cond A step (cond.Not a) ≡ step (Cond-F.Not (fold-Cond A step a))
  at_not a = ap (fold-Cond A step) (sym (cond.rolls-Not a)) ∙ fold-roll-Cond A step (Cond-F.Not a)

-- ---- terms and pairs

module _ (c : Cube) (q : Query) (aggs : List Agg) where
  abbrev bound : SqlTerm → Term
  bound t = bound_term c q aggs t

  abbrev bound_pair : SqlTerm × SqlLit → Term × Lit
  bound_pair p = (bound_term c q aggs p.0, bound_lit p.1)

  -- a layer of a condition, bound
  at_layer : (x : SqlCond-F SqlCond) → bound_cond c q aggs (roll-SqlCond x) ≡ bound_step c q aggs (map-SqlCond SqlCond Cond (bound_cond c q aggs) x)
  at_layer x = fold-roll-SqlCond Cond (bound_step c q aggs) x

  module _ (P : Term → Type 0) where
    abbrev TermsHold : SqlCond → Type 0
    TermsHold given = Each (λ t. P (bound t)) (sql.cond_terms given) → Each P (terms_of (bound_cond c q aggs given))

    abbrev Layer : SqlCond-F SqlCond → Type 0
    Layer x = Each (λ t. P (bound t)) (sql.terms_step (map-SqlCond SqlCond (List SqlTerm) sql.cond_terms x)) → Each P (terms_of (bound_step c q aggs (map-SqlCond SqlCond Cond (bound_cond c q aggs) x)))

    layer : (y : SqlCond-F ((given : SqlCond) × TermsHold given)) → Layer (map-SqlCond ((given : SqlCond) × TermsHold given) SqlCond (λ e. e.0) y)
    layer (SqlCond-F.Compare t o l) h = subst (Each P) (sym (at_compare terms_step (bound t) (bound_test o) (bound_lit l))) h
    layer (SqlCond-F.AnyOf t ls) h = subst (Each P) (sym (at_any_of terms_step (bound t) (map bound_lit ls))) h
    layer (SqlCond-F.Between t low high) h =
        let e = at_and terms_step (cond.Compare (bound t) test.Ge (bound_lit low)) (cond.Compare (bound t) test.Le (bound_lit high)) in
        rw (e, at_compare terms_step (bound t) test.Ge (bound_lit low), at_compare terms_step (bound t) test.Le (bound_lit high)) (h.0, h)
    layer (SqlCond-F.IsNull t) h = subst (Each P) (sym (at_is_null terms_step (bound t))) h
    layer (SqlCond-F.And a b) h =
        subst (Each P) (sym (at_and terms_step (bound_cond c q aggs a.0) (bound_cond c q aggs b.0)))
        (joined P _ _ (a.1 (front _ (sql.cond_terms a.0) (sql.cond_terms b.0) h)) (b.1 (back _ (sql.cond_terms a.0) (sql.cond_terms b.0) h)))
    layer (SqlCond-F.Or a b) h =
        subst (Each P) (sym (at_or terms_step (bound_cond c q aggs a.0) (bound_cond c q aggs b.0)))
        (joined P _ _ (a.1 (front _ (sql.cond_terms a.0) (sql.cond_terms b.0) h)) (b.1 (back _ (sql.cond_terms a.0) (sql.cond_terms b.0) h)))
    layer (SqlCond-F.Not a) h = subst (Each P) (sym (at_not terms_step (bound_cond c q aggs a.0))) (a.1 h)

    whole : (x : SqlCond-F SqlCond) → Layer x → TermsHold (roll-SqlCond x)
    whole x f h =
        subst (λ z. Each P (terms_of z)) (sym (at_layer x)) (f (subst (Each (λ t. P (bound t))) (fold-roll-SqlCond (List SqlTerm) sql.terms_step x) h))

    pub terms_hold : (given : SqlCond) → TermsHold given
    terms_hold = ind-SqlCond TermsHold (λ x y is. whole x (subst Layer is (layer y)))

  module _ (P : Term × Lit → Type 0) where
    abbrev PairsHold : SqlCond → Type 0
    PairsHold given = Each (λ p. P (bound_pair p)) (sql.cond_pairs given) → Each P (pairs_of (bound_cond c q aggs given))

    abbrev PairLayer : SqlCond-F SqlCond → Type 0
    PairLayer x =
        Each (λ p. P (bound_pair p)) (sql.pairs_step (map-SqlCond SqlCond (List (SqlTerm × SqlLit)) sql.cond_pairs x))
        → Each P (pairs_of (bound_step c q aggs (map-SqlCond SqlCond Cond (bound_cond c q aggs) x)))

    any_of : (t : SqlTerm) (ls : List SqlLit) → Each (λ p. P (bound_pair p)) (map (λ l. (t, l)) ls) → Each P (map (λ l. (bound t, l)) (map bound_lit ls))
    any_of t [] h = tt
    any_of t (l ∷ ls) h = (h.0, any_of t ls h.1)

    pair_layer : (y : SqlCond-F ((given : SqlCond) × PairsHold given)) → PairLayer (map-SqlCond ((given : SqlCond) × PairsHold given) SqlCond (λ e. e.0) y)
    pair_layer (SqlCond-F.Compare t o l) h = subst (Each P) (sym (at_compare pairs_step (bound t) (bound_test o) (bound_lit l))) h
    pair_layer (SqlCond-F.AnyOf t ls) h = subst (Each P) (sym (at_any_of pairs_step (bound t) (map bound_lit ls))) (any_of t ls h)
    pair_layer (SqlCond-F.Between t low high) h =
        let e = at_and pairs_step (cond.Compare (bound t) test.Ge (bound_lit low)) (cond.Compare (bound t) test.Le (bound_lit high)) in
        rw (e, at_compare pairs_step (bound t) test.Ge (bound_lit low), at_compare pairs_step (bound t) test.Le (bound_lit high)) h
    pair_layer (SqlCond-F.IsNull t) h = subst (Each P) (sym (at_is_null pairs_step (bound t))) tt
    pair_layer (SqlCond-F.And a b) h =
        subst (Each P) (sym (at_and pairs_step (bound_cond c q aggs a.0) (bound_cond c q aggs b.0)))
        (joined P _ _ (a.1 (front _ (sql.cond_pairs a.0) (sql.cond_pairs b.0) h)) (b.1 (back _ (sql.cond_pairs a.0) (sql.cond_pairs b.0) h)))
    pair_layer (SqlCond-F.Or a b) h =
        subst (Each P) (sym (at_or pairs_step (bound_cond c q aggs a.0) (bound_cond c q aggs b.0)))
        (joined P _ _ (a.1 (front _ (sql.cond_pairs a.0) (sql.cond_pairs b.0) h)) (b.1 (back _ (sql.cond_pairs a.0) (sql.cond_pairs b.0) h)))
    pair_layer (SqlCond-F.Not a) h = subst (Each P) (sym (at_not pairs_step (bound_cond c q aggs a.0))) (a.1 h)

    pair_whole : (x : SqlCond-F SqlCond) → PairLayer x → PairsHold (roll-SqlCond x)
    pair_whole x f h =
        subst (λ z. Each P (pairs_of z)) (sym (at_layer x)) (f (subst (Each (λ p. P (bound_pair p))) (fold-roll-SqlCond (List (SqlTerm × SqlLit)) sql.pairs_step x) h))

    pub pairs_hold : (given : SqlCond) → PairsHold given
    pairs_hold = ind-SqlCond PairsHold (λ x y is. pair_whole x (subst PairLayer is (pair_layer y)))
