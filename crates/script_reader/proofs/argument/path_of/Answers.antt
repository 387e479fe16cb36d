use Rattle.std.proofs.Common.{refl}
use Rattle.std.proofs.lemmas.Str.{is_utf8-from_IsUtf8}
use Rattle.script_reader.proofs.Utf8.{not_utf8}
use Rattle.script_reader.proofs.argument.path_of.Goals as goal

pub returns-in_default : goal.returns-in_default
returns-in_default c = rw (not_utf8 c.args.word.now c.in_default.ensures.cases.0) refl

pub returns : goal.returns
returns c = rw (is_utf8-from_IsUtf8 c.args.word.now c.in-Ok.ensures.cases.1) (cc (c.in_ok-new.ensures, c.in-Ok.ensures.cases.0))
