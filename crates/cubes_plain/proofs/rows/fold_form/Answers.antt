use Rattle.std.proofs.Common.{refl}
use Rattle.cubes_plain.proofs.rows.fold_form.Goals as goal

pub returns : goal.returns
returns c =
    let cols = rw (c.in_ok-push-2.ensures.ok, c.in_ok-push.ensures.ok, c.new-cols.ensures, c.in_ok-first.ensures, c.in_ok-second.ensures, c.in_ok-number.ensures) at c.in_ok-push-3.ensures.ok in
    rw (cols, c.in_ok-no_null.ensures, c.new.ensures) refl
