use Rattle.std.proofs.Common.{◌≡◌, ◌+◌, ◌∙◌, ap, length, sym, rules, tests}
use Rattle.std.specs.Prelude.{unwrap_or}
use Rattle.std.specs.List.{position_or_len}
use Rattle.std.proofs.lemmas.Iterator.{YieldsList-from_slice}
use Rattle.std.proofs.lemmas.Iterator.Search.{position_from_yields_List}
use Rattle.cube_desc.specs.Cube.{Cube}
use Rattle.cube_desc.specs.FlatRow.{is_column, measured, place_of}
use Rattle.cube_desc.proofs.FlatRowFacts.{place_or_len}
use Rattle.cube_desc.proofs.flat_row.place_of.Goals as goal

pub returns-in-Some : goal.returns-in-Some
returns-in-Some c =
    let test = is_column c.in-Some.column in
    let xs = c.measured-measured.result.now in
    let found = position_from_yields_List test _ _ _ c.position-place.ensures.ran (YieldsList-from_slice xs c.iter.ensures.rest) (λ x b q k. search (rules, tests)) in
    let place : c.unwrap_or.result ≡ position_or_len test xs = c.unwrap_or.ensures ∙ (λ i. unwrap_or (found i) (length xs)) ∙ place_or_len test xs in
    let columns : xs ≡ measured c.args.cube.now = c.measured-measured.ensures in
    let keys : c.len.result ≡ length c.args.cube.now.rowkey = c.len.ensures ∙ ap (λ (k : Cube). length k.rowkey) c.cube.view_is in
    let there : c.unwrap_or.result ≡ position_or_len test (measured c.args.cube.now) = place ∙ ap (position_or_len test) columns in
    (λ i. keys i + there i) ∙ sym (ap (place_of c.args.cube.now) c.in-Some.is)
