use Rattle.std.proofs.Common.{◌≡◌, ◌<◌, ◌+◌, ◌++◌, ◌∷◌, ◌∙◌, [], List, ℕ, ap, append_assoc, arith, drop, get_or, length, refl, subst, sym, take, take_all}
use Rattle.std.specs.Prelude.{All}
use Rattle.std.proofs.lemmas.List.{append-nil, drop_all, drop_more, take_more}
use Rattle.std.proofs.lemmas.List.Elements.{All-append, All-from_recursion}
use Rattle.cell_store.specs.Cells.{CellRows}
use Rattle.cell_merge.specs.Merges.{renumbered_parts}
use Rattle.cell_merge.specs.Renumbered.{IsNumberedPart, renumbered}
use Rattle.cell_merge.proofs.RowFacts.{IsWhole, numbered_at, same_length}
use Rattle.cell_merge.proofs.merging.renumbered_parts.Goals as goal

no_parts : (remaps : List (List (List ℕ))) → renumbered_parts remaps [] ≡ []
no_parts [] = refl
no_parts (r ∷ remaps) = refl

pub bounds-remaps-i : goal.bounds-remaps-i
bounds-remaps-i g c = let size = same_length c.args.remaps.now c.args.parts.now c.requires.numbers in omega (arith, size, c.loop-i-test.true)

pub add_renumbered-requires : goal.add_renumbered-requires
add_renumbered-requires g c =
    let r = c.index-remaps-i.result in
    let p = c.index-parts-i.result in
    let i = c.loop-i.i in
    record {
      numbers = subst (λ (t : CellRows). IsNumberedPart r t) (sym c.index-parts-i.is)
          (subst (λ (x : List (List ℕ)). IsNumberedPart x (get_or c.args.parts.now i p)) (sym c.index-remaps-i.is)
          (numbered_at c.args.remaps.now c.args.parts.now i r p c.requires.numbers c.loop-i-test.true));
    }

pub loop-i-preserved : goal.loop-i-preserved
loop-i-preserved g c =
    let remaps : List (List (List ℕ)) = c.args.remaps.now in
    let parts : List CellRows = c.args.parts.now in
    let r : List (List ℕ) = c.index-remaps-i.result in
    let p : CellRows = c.index-parts-i.result in
    let i = c.loop-i.i in
    let had = c.loop-i.rows.items in
    let lt : i < length parts = c.loop-i-test.true in
    let size = same_length remaps parts c.requires.numbers in
    let rest = renumbered_parts (drop (i + 1) remaps) (drop (i + 1) parts) in
    let next_remaps : drop i remaps ≡ r ∷ drop (i + 1) remaps = drop_more remaps i r (omega (arith, size, lt)) ∙ ap (λ (x : List (List ℕ)). x ∷ drop (i + 1) remaps) (sym c.index-remaps-i.is) in
    let next_parts : drop i parts ≡ p ∷ drop (i + 1) parts = drop_more parts i p lt ∙ ap (λ (t : CellRows). t ∷ drop (i + 1) parts) (sym c.index-parts-i.is) in
    let more : take (i + 1) parts ≡ take i parts ++ p ∷ [] = take_more parts i p lt ∙ ap (λ (t : CellRows). take i parts ++ t ∷ []) (sym c.index-parts-i.is) in
    record {
      rows =
          ap (λ l. l ++ rest) (c.in_ok-add_renumbered.ensures ∙ ap (λ l. l ++ renumbered r p) c.in_ok-reserve.ensures.items) ∙ append_assoc had (renumbered r p) rest
          ∙ (λ j. had ++ renumbered_parts (sym next_remaps j) (sym next_parts j)) ∙ c.loop-i.invariant.rows;
      tables = subst (λ (l : List CellRows). All IsWhole l) (sym more) (All-append IsWhole (take i parts) (p ∷ []) c.loop-i.invariant.tables (All-from_recursion IsWhole (p ∷ []) (c.len.ensures.table, tt)));
    }

pub returns-clause-rows : goal.returns-clause-rows
returns-clause-rows g c =
    let remaps : List (List (List ℕ)) = c.args.remaps.now in
    let parts : List CellRows = c.args.parts.now in
    let had = c.loop-i.rows.items in
    let none : renumbered_parts (drop c.loop-i.i remaps) (drop c.loop-i.i parts) ≡ [] = ap (renumbered_parts (drop c.loop-i.i remaps)) (drop_all c.loop-i.i parts (omega arith)) ∙ no_parts (drop c.loop-i.i remaps) in
    sym (append-nil had) ∙ ap (λ l. had ++ l) (sym none) ∙ c.loop-i.invariant.rows

pub returns-clause-tables : goal.returns-clause-tables
returns-clause-tables g c = subst (λ (l : List CellRows). All IsWhole l) (take_all c.loop-i.i c.args.parts.now (omega arith)) c.loop-i.invariant.tables
