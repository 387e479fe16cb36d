use Rattle.std.proofs.Common.{◌<◌, ◌∷◌, ℕ, [], get_or, length, arith}
use Rattle.std.proofs.lemmas.List.Elements.{All-from_recursion}
use Rattle.value_check.proofs.lookups.lookup_in.Goals as goal

pub make-requires-clause-key : goal.make-requires-clause-key
make-requires-clause-key c = rw c.of.ensures (λ k d h.
    let two = c.in_ok-rows.ensures k d h in
    All-from_recursion (λ (p : ℕ). p < length (get_or c.in_ok-rows.rows.items k d)) (0 ∷ []) (omega arith, tt))

pub make-requires-clause-cols : goal.make-requires-clause-cols
make-requires-clause-cols c = rw c.of.ensures (λ k d h.
    let two = c.in_ok-rows.ensures k d h in
    All-from_recursion (λ (p : ℕ). p < length (get_or c.in_ok-rows.rows.items k d)) (1 ∷ []) (omega arith, tt))
