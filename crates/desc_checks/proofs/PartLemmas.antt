-- Where a text is cut at its point.
use Rattle.std.proofs.Common.{◌≡◌, ℕ, ◌+◌, ◌-◌, List, [], length, take, drop, Some, None, Bool, true, false, cond, refl, sym, ◌∙◌, arith}
use Rattle.std.specs.Prelude.{◌==◌}
use Rattle.std.specs.List.{position}
use Rattle.std.proofs.lemmas.Option.{cond_some}
use Rattle.std.proofs.Math.ListN.{drop_of_length-le}
use Rattle.std.proofs.lemmas.Bool.{ltb-false}
use Rattle.std.proofs.lemmas.List.{take_all, take_rest}
use Rattle.desc_checks.specs.Names.{table_part, column_part}

dot : ℕ → Bool
dot b = b == 46

pub table_is : (s : List ℕ) (i : ℕ) → Some i ≡ position (λ b. b == 46) s → take i s ≡ table_part s
unfolding table_part
table_is s i e = rw ((cond_some _ _ _ (sym e)).1) refl

pub column_is : (s : List ℕ) (i : ℕ) → Some i ≡ position (λ b. b == 46) s → take (length s - (i + 1)) (drop (i + 1) s) ≡ column_part s
unfolding column_part
column_is s i e = take_rest s (i + 1) ∙ rw ((cond_some _ _ _ (sym e)).1) refl

no_dot : (b : Bool) (m : ℕ) → None ≡ cond b (Some m) None → b ≡ false
no_dot true m e = cc
no_dot false m e = refl

pub table_all : (s : List ℕ) → None ≡ position (λ b. b == 46) s → s ≡ table_part s
unfolding table_part
table_all s e = let n = ltb-false _ _ (no_dot _ _ e) in sym (take_all _ s n)

pub column_none : (s : List ℕ) → None ≡ position (λ b. b == 46) s → [] ≡ column_part s
unfolding column_part
column_none s e = let n = ltb-false _ _ (no_dot _ _ e) in sym (drop_of_length-le s (omega arith))
