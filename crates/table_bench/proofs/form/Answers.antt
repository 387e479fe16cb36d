use Rattle.std.proofs.Common.{◌<◌, ◌∷◌, ℕ, [], refl, arith}
use Rattle.std.proofs.lemmas.List.Elements.{All-from_recursion}
use Rattle.table_bench.proofs.form.Goals as goal

pub returns-clause-no_null : goal.returns-clause-no_null
returns-clause-no_null c = rw (c.in_ok-no_null.ensures, c.in_ok-cols.ensures) refl

pub returns-clause-key : goal.returns-clause-key
returns-clause-key c =
    rw (c.in_ok-key.ensures, c.in_ok-cols.ensures) (All-from_recursion (λ (place : ℕ). place < 6) (0 ∷ 1 ∷ 2 ∷ []) (omega arith, (omega arith, (omega arith, tt))))
