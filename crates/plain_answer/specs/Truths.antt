-- Three truth values.
use Rattle.std.specs.Prelude.{Bool, true, false}
use Rattle.plain_answer.specs.declared.truth.Truth.{Truth}
use Rattle.plain_answer.specs.declared.truth.Truth.TheVariants.{True, False, Unknown}

abbrev pub truth_from : Bool → Truth
truth_from true = True
truth_from false = False

abbrev pub is_true : Truth → Bool
is_true True = true
is_true False = false
is_true Unknown = false

-- false where one is false, true where both are true, else unknown
abbrev pub conjunction : Truth → Truth → Truth
conjunction False q = False
conjunction True q = q
conjunction Unknown False = False
conjunction Unknown True = Unknown
conjunction Unknown Unknown = Unknown

-- true where one is true, false where both are false, else unknown
abbrev pub disjunction : Truth → Truth → Truth
disjunction True q = True
disjunction False q = q
disjunction Unknown True = True
disjunction Unknown False = Unknown
disjunction Unknown Unknown = Unknown

abbrev pub negation : Truth → Truth
negation True = False
negation False = True
negation Unknown = Unknown
