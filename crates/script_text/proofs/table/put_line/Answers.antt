use Rattle.std.proofs.Common.{◌≡◌, false, map, sym, ◌∙◌}
use Rattle.std.specs.Result.{is_err}
use Rattle.script_text.proofs.Writers.{ok_part, written_more}
use Rattle.script_text.proofs.table.put_line.Goals as goal

pub returns : goal.returns
returns c = λ text h. (
    let ok : is_err c.write_fields.result ≡ false = sym c.is_err.ensures.value ∙ c.if-is_err.false in
    written_more c.args.writer.now c.write_fields.new.self (map (λ field. field.now) c.args.fields.now) text h
    (ok_part c.write_fields.result _ ok c.write_fields.ensures.bytes) (ok_part c.write_fields.result _ ok c.write_fields.ensures.ended)
    (ok_part c.write_fields.result _ ok c.write_fields.ensures.clean) (ok_part c.write_fields.result _ ok c.write_fields.ensures.setup)
    )
