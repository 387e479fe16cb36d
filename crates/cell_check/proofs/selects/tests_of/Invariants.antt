use Rattle.std.specs.Prelude.{All, ◌<◌}
use Rattle.cell_store.specs.declared.select.IdTest.{IdTest}
use Rattle.cell_check.proofs.selects.tests_of.Given as goal

abbrev pub invariant-loop-word : goal.invariant-loop-word
invariant-loop-word l = All (λ (test : IdTest). test.column < l.columns) l.tests.items
