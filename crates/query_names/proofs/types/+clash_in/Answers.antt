use Rattle.std.proofs.Common.{◌∙◌}
use Rattle.query_names.specs.Types.{type_clash}
use Rattle.query_names.proofs.CondLemmas.{pairs_of_and, pairs_of_or, pairs_of_any}
use Rattle.query_names.proofs.types.+clash_in.Goals as goal

pub returns-in-AnyOf : goal.returns-in-AnyOf
returns-in-AnyOf t c =
    pairs_of_any (type_clash c.args.scope.now.parts.now c.args.scope.now.query.now) c.args.cond.now c.in-AnyOf.term c.in-AnyOf.lits _ _ c.in-AnyOf.is c.as_slice.ensures c.least_in.ensures

pub returns-in-And : goal.returns-in-And
returns-in-And t c =
    c.lesser-in-And.ensures ∙ pairs_of_and (type_clash c.args.scope.now.parts.now c.args.scope.now.query.now) c.args.cond.now c.in-And.a c.in-And.b _ _ _ _ c.in-And.is c.get.ensures c.get-in-And.ensures c.clash_in.ensures c.clash_in-in-And.ensures

pub returns-in-Or : goal.returns-in-Or
returns-in-Or t c =
    c.lesser-in-Or.ensures ∙ pairs_of_or (type_clash c.args.scope.now.parts.now c.args.scope.now.query.now) c.args.cond.now c.in-Or.a c.in-Or.b _ _ _ _ c.in-Or.is c.get-in-Or.ensures c.get-in-Or-2.ensures c.clash_in-in-Or.ensures c.clash_in-in-Or-2.ensures
