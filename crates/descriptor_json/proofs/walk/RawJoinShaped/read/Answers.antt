use Rattle.std.proofs.Common.{rules, ◌≡◌, true}
use Rattle.std.specs.Prelude.{Err, is_some}
use Rattle.serde_json.specs.Find.{as_object}
use Rattle.serde_json.specs.View.{view}
use Rattle.descriptor_json.proofs.Told.{stops, ends}
use Rattle.descriptor_json.proofs.walk.RawJoinShaped.read.Goals as goal

pub returns-in_err-foreign : goal.returns-in_err-foreign
returns-in_err-foreign c =
    let e : c.from_residual-in_err-foreign.result ≡ Err c.in_err-foreign.field-0.0 = search rules in
    let o : is_some (as_object (view c.args.value.now)) ≡ true = search rules in
    rw (e, c.in_ok-kind.ensures, c.in_ok-primary.ensures) (stops _ _ _ _ _ o c.in_err-foreign.ensures)

pub returns : goal.returns
returns c =
    let o : is_some (as_object (view c.args.value.now)) ≡ true = search rules in
    rw (c.in_ok-kind.ensures, c.in_ok-primary.ensures, c.in_ok-foreign.ensures) (ends _ _ _ o)
