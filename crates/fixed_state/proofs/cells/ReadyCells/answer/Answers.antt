use Rattle.std.proofs.Common.{ap, ◌∙◌}
use Rattle.fixed_cube.specs.Answers.{by_first}
use Rattle.plain_answer.specs.Answers.{plain_of}
use Rattle.fixed_state.proofs.ReadyFacts.{row_lists, set_bases, set_numbers, set_rows}
use Rattle.fixed_state.proofs.cells.ReadyCells.answer.Goals as goal

pub returns-in-Ok-clause-plain : goal.returns-in-Ok-clause-plain
returns-in-Ok-clause-plain c = λ set cells.
    c.in-Ok.ensures.plain (row_lists set) (set_numbers set cells.fits) (rw (c.deref-2.ensures.value, c.in_ok-lists.ensures, c.deref.ensures.value, c.self.view_is) (set_bases set c.args.self.now cells))
    ∙ ap (plain_of by_first) (set_rows set)
