use Rattle.std.proofs.Common.{◌≡◌, true, false}
use Rattle.descriptor_json.proofs.Parsed.{json_is, no_json}
use Rattle.descriptor_json.proofs.parse.parse.Goals as goal

pub returns-in-Ok-clause-ok : goal.returns-in-Ok-clause-ok
returns-in-Ok-clause-ok c = json_is _ _ c.in-Ok.ensures.ok.0 c.in-Ok.ensures.ok.1

pub returns-else-is_memory-clause-no_json : goal.returns-else-is_memory-clause-no_json
returns-else-is_memory-clause-no_json c = λ _. no_json _ (c.in-Err.ensures.err (λ m. let f : false ≡ true = c.if-is_memory.ensures.1 m in cc))
