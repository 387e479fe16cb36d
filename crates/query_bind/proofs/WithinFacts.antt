-- The bits that a query needs are those of rowkey columns.
use Rattle.std.proofs.Common.{◌≡◌, ℕ, ◌<◌, ◌≤◌, ◌-◌, List, [], ◌∷◌, length, refl, sym, ◌∙◌, subst, arith, cond}
use Rattle.std.specs.Prelude.{Bool, true, false, ◌==◌, Option, Some, None, unwrap_or, slice_get, nat_lt}
use Rattle.std.specs.List.{flat_map, position, position_or_len, AllByRecursion as Each}
use Rattle.std.proofs.lemmas.Bool.{eqb-true, ltb-true}
use Rattle.std.proofs.lemmas.List.Elements.{All-from_recursion}
use Rattle.std.proofs.lemmas.List.Folds.{Any-from_list_any}
use Rattle.agg_group.specs.Mask.{has}
use Rattle.agg_group.specs.Limits.{most_dimensions}
use Rattle.agg_group.specs.Sets.{is_among}
use Rattle.agg_group.specs.Rules.{AreDimensions}
use Rattle.agg_group.specs.declared.mask.Mask.{Mask}
use Rattle.cube_val.specs.declared.form.WideCol.{WideCol}
use Rattle.cube_desc.specs.Cube.{Cube}
use Rattle.cube_desc.specs.Resolve.{wide_fact}
use Rattle.cube_desc.specs.Sound.{foreign_of}
use Rattle.cube_desc.specs.declared.desc.DerivedDesc.{DerivedDesc}
use Rattle.sql_reader.specs.declared.tree.SqlCond.{SqlCond}
use Rattle.sql_reader.specs.declared.tree.SqlTerm.{SqlTerm}
use Rattle.sql_reader.specs.declared.tree.SqlTerm.TheVariants as sql
use Rattle.sql_reader.specs.declared.tree.Query.{Query}
use Rattle.query_names.specs.Parts.{cond_terms, of_cond, of_term}
use Rattle.query_names.specs.Resolve.{same_column}
use Rattle.query_bind.specs.Asks.{column_number}
use Rattle.query_bind.specs.Bounds.{IsWithinRowkey}
use Rattle.query_bind.specs.Needs.{rowkey_place, derived_bits, bits_of, column_bits, needed_bits}
use Rattle.query_bind.proofs.EachLemmas.{joined, mapped, flat, weaker, always}

chosen : (b : Bool) (n len : ℕ) → nat_lt n len ≡ b → 0 < len → unwrap_or (cond b (Some n) None) 0 < len
chosen true n len e h = ltb-true n len e
chosen false n len e h = h

pub place_within : (p : WideCol → Bool) (xs : List WideCol) → 0 < length xs → unwrap_or (position p xs) 0 < length xs
place_within p xs h = chosen (nat_lt (position_or_len p xs) (length xs)) (position_or_len p xs) (length xs) refl h

module _ (c : Cube) (some : 0 < length c.rowkey) where
  abbrev IsIn : ℕ → Type 0
  IsIn d = d < length c.rowkey

  derived_within : (d : Option DerivedDesc) → Each IsIn (derived_bits c d)
  derived_within None = tt
  derived_within (Some d) =
      let foreign = foreign_of (slice_get c.plan.joins d.lookup) in
      mapped IsIn (rowkey_place c) foreign (always (λ f. IsIn (rowkey_place c f)) foreign (λ f. place_within (λ own. same_column own (wide_fact f)) c.rowkey some))

  bits_by : (b : Bool) (place : ℕ) → nat_lt place (length c.rowkey) ≡ b → Each IsIn (cond b (place ∷ []) (derived_bits c (slice_get c.derived (place - length c.rowkey))))
  bits_by true place e = (ltb-true place (length c.rowkey) e, tt)
  bits_by false place e = derived_within (slice_get c.derived (place - length c.rowkey))

  bits_within : (place : ℕ) → Each IsIn (bits_of c place)
  bits_within place = bits_by (nat_lt place (length c.rowkey)) place refl

  module _ (q : Query) where
    term_within : (t : SqlTerm) → Each IsIn (of_term (column_bits c q) t)
    term_within (sql.Col r) = bits_within (column_number c q r)
    term_within (sql.Agg p w None) = tt
    term_within (sql.Agg p w (Some r)) = bits_within (column_number c q r)

    cond_within : (given : Option SqlCond) → Each IsIn (of_cond (of_term (column_bits c q)) given)
    cond_within None = tt
    cond_within (Some given) = flat IsIn (of_term (column_bits c q)) (cond_terms given) (always (λ t. Each IsIn (of_term (column_bits c q) t)) (cond_terms given) term_within)

    needed_within : Each IsIn (needed_bits c q)
    needed_within =
        joined IsIn (of_cond (of_term (column_bits c q)) q.filter) (flat_map (column_bits c q) q.group) (cond_within q.filter)
        (flat IsIn (column_bits c q) q.group (always (λ r. Each IsIn (column_bits c q r)) q.group (λ r. bits_within (column_number c q r))))

    pub dimensions : length c.rowkey ≤ most_dimensions → AreDimensions (needed_bits c q)
    dimensions few =
        All-from_recursion (λ d. d < 64) (needed_bits c q) (weaker IsIn (λ d. d < 64) (needed_bits c q) (λ d h. omega (arith, h, few)) needed_within)

    pub within : (m : Mask) → ((d : ℕ) → has m d ≡ is_among d (needed_bits c q)) → IsWithinRowkey c m
    within m is d h =
        let found = Any-from_list_any (λ x. x == d) (needed_bits c q) (sym (is d) ∙ h) in
        let own : IsIn found.1 = subst IsIn found.3 (All-from_recursion IsIn (needed_bits c q) needed_within found.0 found.1 found.2) in
        subst IsIn (eqb-true found.1 d found.4) own
