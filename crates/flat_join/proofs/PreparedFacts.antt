-- Facts about the flat rows of a part of the fact table.
use Rattle.std.proofs.Common.{◌≡◌, ◌∙◌, List, ◌∷◌, ◌++◌, Ok, Err, OnOk, Result, refl, ap, subst, arith, map}
use Rattle.std.specs.Prelude.{filter}
use Rattle.std.proofs.lemmas.List.{map-append}
use Rattle.cube_desc.specs.Cube.{Cube}
use Rattle.cube_desc.specs.Sound.{IsSound}
use Rattle.cube_val.specs.declared.form.JoinPlan.{JoinPlan}
use Rattle.cube_val.specs.declared.form.JoinStep.{JoinStep}
use Rattle.cube_val.specs.declared.form.WideCol.{WideCol}
use Rattle.cube_val.specs.declared.val.Val.{Val}
use Rattle.range_list.specs.Ranges.{Interval}
use Rattle.flat_join.specs.Flat.{AreTablesOf, flat_of, without_derived}
use Rattle.flat_join.specs.Joins.{fact_of, is_joined, joined_by, lookups_of, matches_of, wide_row}
use Rattle.flat_join.specs.Partners.{AreServed, Entries, found_in}
use Rattle.flat_join.specs.Prepared.{IsPrepared, Joining, flat_rows_of}
use Rattle.flat_join.proofs.FlatFacts.{flat_is, lookup_count}
use Rattle.flat_join.proofs.JoinFacts.{kept-append}
use Rattle.flat_join.proofs.ServeFacts.{served_length}

-- columns and snapshots that are made of a cube stand ready for its tables
pub prepared : (c : Cube) (tables : List (List (List Val))) (range : Interval) (parts : Cube) (joins : List JoinStep) (columns : List WideCol) (snaps : List Entries) → IsSound c → AreTablesOf c tables
    → parts ≡ c → joins ≡ c.plan.joins → columns ≡ without_derived parts parts.plan.wide → AreServed joins (lookups_of tables) snaps
    → IsPrepared (record { cube = c; tables = tables; range = range }) columns snaps
prepared c tables range parts joins columns snaps s t same js cols served =
    let a = t.count in
    let b = s.tables in
    let here = subst (λ (l : List JoinStep). AreServed l (lookups_of tables) snaps) js served in
    record {
      fact_table = omega arith;
      columns_are = cols ∙ ap (λ (x : Cube). without_derived x x.plan.wide) same;
      count = served_length c.plan.joins (lookups_of tables) snaps (lookup_count c tables s t) here;
      served = here;
    }

-- what is joined by them are the flat rows
pub added_ok : {E : Type 0} (r : Result (Unit {0}) E) (j : Joining) (plan : JoinPlan) (columns : List WideCol) (snaps : List Entries) (facts old new : List (List Val)) → IsPrepared j columns snaps → plan ≡ j.cube.plan
    → OnOk r (new ≡ old ++ joined_by (found_in plan.joins snaps) plan columns j.range facts) → OnOk r (new ≡ old ++ flat_rows_of j facts)
added_ok (Ok u) j plan columns snaps facts old new ready same e =
    let made = joined_by (found_in j.cube.plan.joins snaps) j.cube.plan columns j.range facts in
    e ∙ ap (λ (p : JoinPlan). old ++ joined_by (found_in p.joins snaps) p columns j.range facts) same
    ∙ ap (λ l. old ++ l) (flat_is j.cube (facts ∷ lookups_of j.tables) j.range snaps columns facts made ready.served ready.columns_are refl refl)
added_ok (Err x) j plan columns snaps facts old new ready same e = tt

-- the flat rows of two parts are those of the one and then those of the other
pub flat_rows-append : (j : Joining) (xs ys : List (List Val)) → flat_rows_of j (xs ++ ys) ≡ flat_rows_of j xs ++ flat_rows_of j ys
flat_rows-append j xs ys =
    let matches = matches_of j.cube.plan.joins (lookups_of j.tables) in
    let row : List Val → List Val = λ fact. wide_row j.cube.plan.wide fact (matches fact) in
    let test = λ (fact : List Val). is_joined j.cube.plan j.range fact (matches fact) in
    ap (map (without_derived j.cube)) (kept-append row test xs ys) ∙ map-append (without_derived j.cube) (map row (filter test xs)) (map row (filter test ys))

-- those of all fact rows are those of the tables
pub flat_whole : (j : Joining) → flat_rows_of j (fact_of j.tables) ≡ flat_of j.cube j.tables j.range
flat_whole j = refl
