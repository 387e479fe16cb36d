use Rattle.std.proofs.Common.{rules}
use Rattle.std.proofs.lemmas.Str.{IsUtf8-from_ascii}
use Rattle.cube_val.proofs.text.is_utf8.Goals as goal

pub returns-then-is_ascii : goal.returns-then-is_ascii
returns-then-is_ascii c = (λ ascii. IsUtf8-from_ascii _ (c.is_ascii.ensures ascii), λ _. search (rules, c.if-is_ascii.true))
