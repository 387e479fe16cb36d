use Rattle.std.proofs.Common.{sym, ap, ◌∙◌}
use Rattle.fixed_cube.specs.Answers.{answer_of}
use Rattle.fixed_cube.proofs.AnswerFacts.{answer_is}
use Rattle.fixed_cube.proofs.answer.answer_over.Goals as goal

pub returns-in-Ok-clause-plain : goal.returns-in-Ok-clause-plain
returns-in-Ok-clause-plain c = λ parts numbers same. c.in-Ok.ensures ∙ ap answer_of (sym same) ∙ answer_is parts numbers
