use Rattle.std.proofs.Common.{◌≡◌, None, rules, sym, ◌∙◌}
use Rattle.known_blocks.proofs.Filled.{none-placed, set-placed}
use Rattle.known_blocks.proofs.known.fill.Goals as goal

pub returns-in-Some : goal.returns-in-Some
returns-in-Some c = set-placed c.args.line c.args.block c.args.shown.now c.in-Some.place c.index-shown-place.result (sym c.open_place.ensures ∙ c.in-Some.is)

pub returns-in_default : goal.returns-in_default
returns-in_default c =
    let none : c.open_place.result ≡ None = search rules in
    none-placed c.args.line c.args.block c.args.shown.now (sym c.open_place.ensures ∙ none)
