use Rattle.std.proofs.Common.{◌∙◌}
use Rattle.query_names.proofs.CondLemmas.{terms_of_and, terms_of_or}
use Rattle.query_names.proofs.check.+in_cond.Goals as goal

pub returns-in-And : goal.returns-in-And
returns-in-And g t c =
    c.lesser.ensures ∙ terms_of_and (g.C.Check.failing c.args.check.now) c.args.cond.now c.in-And.a c.in-And.b _ _ _ _ c.in-And.is c.get.ensures c.get-in-And.ensures c.in_cond.ensures c.in_cond-in-And.ensures

pub returns-in-Or : goal.returns-in-Or
returns-in-Or g t c =
    c.lesser-in-Or.ensures ∙ terms_of_or (g.C.Check.failing c.args.check.now) c.args.cond.now c.in-Or.a c.in-Or.b _ _ _ _ c.in-Or.is c.get-in-Or.ensures c.get-in-Or-2.ensures c.in_cond-in-Or.ensures c.in_cond-in-Or-2.ensures
