use Rattle.std.proofs.Common.{◌≡◌, map, take}
use Rattle.script_text.proofs.table.name_fields.Given as goal

abbrev pub invariant-loop-name : goal.invariant-loop-name
invariant-loop-name l = map (λ field. field.now) l.fields.items ≡ take l.name-index l.names
