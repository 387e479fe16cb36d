use Rattle.std.proofs.Common.{◌≡◌, true, false, sym, ap, ◌∙◌, refl}
use Rattle.table_reader.specs.Keys.{has_null, key_of}
use Rattle.lookup_snap.proofs.snap.add_row.Goals as goal

pub returns-then-has_null-clause-adds : goal.returns-then-has_null-clause-adds
returns-then-has_null-clause-adds c =
    let null : has_null (key_of c.args.key.now c.args.row.now) ≡ true = ap has_null (sym c.in_ok-own.ensures) ∙ sym c.has_null.ensures ∙ c.if-has_null.true in
    λ q. rw null refl

pub returns-clause-adds : goal.returns-clause-adds
returns-clause-adds c =
    let none : has_null (key_of c.args.key.now c.args.row.now) ≡ false = ap has_null (sym c.in_ok-own.ensures) ∙ sym c.has_null.ensures ∙ c.if-has_null.false in
    let added = rw (c.in_ok-own.ensures, c.in_ok-values.ensures) at c.in_ok-_earlier.ensures.updates.0 in
    λ q. rw none (added q)
