use Rattle.std.proofs.Common.{refl}
use Rattle.plain_answer.specs.Projections.{columns_of}
use Rattle.plain_answer.proofs.examples.examples_with_nulls.Goals as goal

pub returns-clause-a_hole : goal.returns-clause-a_hole
unfolding columns_of
returns-clause-a_hole c = refl

pub returns-clause-two_holes : goal.returns-clause-two_holes
unfolding columns_of
returns-clause-two_holes c = refl
