use Rattle.std.proofs.Common.{◌+◌, refl, arith}
use Rattle.sql_tokens.specs.declared.token.Token.{Token}
use Rattle.sql_tokens.proofs.Cutting.{cut_more, tail, token_room}
use Rattle.sql_tokens.proofs.lex.tokens_of.Goals as goal

pub overflow_add-at : goal.overflow_add-at
overflow_add-at c =
    let text = c.args.text.now in
    let far = c.cut.at + c.blanks.result in
    let room = token_room text c.cut.at c.blanks.result c.in-Token.len c.in-Token.kind c.in-Token.payload c.in_ok-read_lexeme.field-0 c.cut.invariant.0 (rw (tail text c.cut.at) at c.blanks.ensures.within) (rw (tail text far) at c.in_ok-read_lexeme.ensures) c.in-Token.is in
    omega (arith, room.1)

pub cut-smaller : goal.cut-smaller
cut-smaller c =
    let text = c.args.text.now in
    let far = c.cut.at + c.blanks.result in
    let room = token_room text c.cut.at c.blanks.result c.in-Token.len c.in-Token.kind c.in-Token.payload c.in_ok-read_lexeme.field-0 c.cut.invariant.0 (rw (tail text c.cut.at) at c.blanks.ensures.within) (rw (tail text far) at c.in_ok-read_lexeme.ensures) c.in-Token.is in
    omega (arith, room.0, room.1)

pub cut-preserved : goal.cut-preserved
cut-preserved c =
    let text = c.args.text.now in
    let far = c.cut.at + c.blanks.result in
    let token : Token = record { kind = c.in-Token.kind; place = far; payload = c.in-Token.payload } in
    cut_more text c.cut.at c.blanks.result c.in-Token.len c.cut.tokens c.push.new.self token c.in_ok-read_lexeme.field-0 c.cut.invariant
    (rw (tail text c.cut.at) at c.blanks.ensures.value)
    (rw (tail text c.cut.at) at c.blanks.ensures.within)
    (rw (tail text far) at c.in_ok-read_lexeme.ensures)
    c.in-Token.is
    refl
    c.in_ok-push-in-Token.ensures.ok
