use Rattle.std.proofs.Common.{refl, ap, ◌≡◌, Ok, Err}
use Rattle.std.specs.declared.result.Result.{Result}
use Rattle.cube_val.specs.declared.val.ReadVal.{ReadVal}
use Rattle.cube_val.specs.declared.val.ReadVal.TheVariants.{BadValue}
use Rattle.cube_val.specs.declared.text.TextVal.{TextVal}
use Rattle.step_fields.proofs.TextFacts.{not_text, text_is}
use Rattle.step_fields.proofs.values.text_val.Goals as goal

abbrev refused : ReadVal → Result TextVal ReadVal
refused e = Err e

is_err : (e : ReadVal) → e ≡ BadValue → refused e ≡ refused BadValue
is_err e h = ap refused h

pub returns-in-Ok : goal.returns-in-Ok
returns-in-Ok c = rw (text_is _ c.in-Ok.ensures.is_text, c.in-Ok.ensures.ok) refl

pub returns-in-Err-BadValue : goal.returns-in-Err-BadValue
returns-in-Err-BadValue c = rw (not_text c.args.bytes.now c.requires (c.in-Err-BadValue.ensures.bad_value (is_err _ c.in-Err-BadValue.field-0-is))) refl
