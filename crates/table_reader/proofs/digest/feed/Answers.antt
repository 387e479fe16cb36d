use Rattle.std.proofs.Common.{◌≡◌, ℤ, ap, sym, ◌∙◌, fold, of_z, to_z, w64, rules}
use Rattle.std.specs.Hash as fed
use Rattle.std.specs.Hash.FoldHasher as folding
use Rattle.table_reader.specs.Digests.{fed_with}
use Rattle.table_reader.proofs.digest.feed.Goals as goal

pub returns-in-Null : goal.returns-in-Null
unfolding fed_with
returns-in-Null c = c.write.ensures ∙ ap (fed_with c.args.state.now) (sym c.in-Null.is)

pub returns-in-Int : goal.returns-in-Int
unfolding fed_with
returns-in-Int c =
    let is : to_z w64 (of_z w64 c.in-Int.number) ≡ c.in-Int.number = search rules in
    c.write_i64.ensures ∙ ap (λ (z : ℤ). fold folding.write c.args.state.now (fed.i64 z)) is ∙ ap (fed_with c.args.state.now) (sym c.in-Int.is)

pub returns-in-Text : goal.returns-in-Text
unfolding fed_with
returns-in-Text c = c.write-in-Text.ensures ∙ ap (folding.write c.args.state.now) c.bytes.ensures.bytes ∙ ap (fed_with c.args.state.now) (sym c.in-Text.is)
