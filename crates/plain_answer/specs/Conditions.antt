-- What a condition means, given what its terms stand for.
use Rattle.std.specs.Prelude.{Bool, List, fold, if◌then◌else◌}
use Rattle.std.specs.declared.cmp.Ordering.{Ordering}
use Rattle.std.specs.Ordering.{is_eq, is_ne, is_lt, is_le, is_gt, is_ge}
use Rattle.plain_answer.specs.declared.answer.OutVal.{OutVal}
use Rattle.plain_answer.specs.declared.answer.OutVal.TheVariants as out
use Rattle.plain_answer.specs.declared.cond.Cond.{Cond, fold-Cond}
use Rattle.plain_answer.specs.declared.cond.Cond.TheOpen.{Cond-F}
use Rattle.plain_answer.specs.declared.cond.Lit.{Lit}
use Rattle.plain_answer.specs.declared.cond.Lit.TheVariants.{Number, Text}
use Rattle.plain_answer.specs.declared.cond.Term.{Term}
use Rattle.plain_answer.specs.declared.cond.Test.{Test}
use Rattle.plain_answer.specs.declared.cond.Test.TheVariants.{Eq, Ne, Lt, Le, Gt, Ge}
use Rattle.plain_answer.specs.declared.truth.Truth.{Truth}
use Rattle.plain_answer.specs.declared.truth.Truth.TheVariants as truth
use Rattle.plain_answer.specs.OutVals.{is_null, out_cmp}
use Rattle.plain_answer.specs.Truths.{conjunction, disjunction, negation, truth_from}

abbrev pub value_of_lit : Lit → OutVal
value_of_lit (Number n) = out.Units n
value_of_lit (Text t) = out.Text t

abbrev pub passes_test : Test → Ordering → Bool
passes_test Eq o = is_eq o
passes_test Ne o = is_ne o
passes_test Lt o = is_lt o
passes_test Le o = is_le o
passes_test Gt o = is_gt o
passes_test Ge o = is_ge o

-- a comparison: unknown with null, else by the order of values
abbrev pub comparison : Test → OutVal → Lit → Truth
comparison test v lit = if is_null v then truth.Unknown else truth_from (passes_test test (out_cmp v (value_of_lit lit)))

-- whether a value is one of the literals: the OR of the equalities
abbrev pub any_equal : OutVal → List Lit → Truth
any_equal v lits = fold (λ any lit. disjunction any (comparison Eq v lit)) truth.False lits

-- one level of a condition, with the truth of each condition inside already known
abbrev pub truth_step : (Term → OutVal) → Cond-F Truth → Truth
truth_step value Cond-F.True = truth.True
truth_step value (Cond-F.Compare term test lit) = comparison test (value term) lit
truth_step value (Cond-F.AnyOf term lits) = any_equal (value term) lits
truth_step value (Cond-F.IsNull term) = truth_from (is_null (value term))
truth_step value (Cond-F.And a b) = conjunction a b
truth_step value (Cond-F.Or a b) = disjunction a b
truth_step value (Cond-F.Not a) = negation a

-- the truth of a condition
abbrev pub truth_of : (Term → OutVal) → Cond → Truth
truth_of value = fold-Cond Truth (truth_step value)
