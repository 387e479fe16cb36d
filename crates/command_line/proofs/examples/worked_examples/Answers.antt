use Rattle.std.proofs.Common.{◌≡◌, ℕ, [], ◌∷◌, refl, inl, inr, rules, arith, sym}
use Rattle.std.specs.Prelude.{codes}
use Rattle.std.specs.Str.Parse.{digits_value}
use Rattle.command_line.specs.Words.{IsPath}
use Rattle.command_line.proofs.examples.worked_examples.Goals as goal

one : (x : ℕ) → (x ≡ 45 → ⊥) → IsPath (x ∷ [])
one x n = (λ e. absurd (search rules), n)

pub returns : goal.returns
returns c = record {
  run = (refl, one 115 (λ e. omega (arith, e)));
  workers_last = (codes "--workers=8", inl refl, one 115 (λ e. omega (arith, e)), (refl, omega arith, omega arith));
  workers_first = (codes "--workers=1", inr refl, one 115 (λ e. omega (arith, e)), (refl, omega arith, omega arith));
  demo = (codes "007", codes "200000", refl, (omega arith, (omega arith, search rules), refl), ((omega arith, (omega arith, search rules), refl), omega arith, omega arith));
  fold = (refl, one 102 (λ e. omega (arith, e)));
  cuboids = (refl, one 99 (λ e. omega (arith, e)));
  step = (refl, one 116 (λ e. omega (arith, e)), one 112 (λ e. omega (arith, e)), one 120 (λ e. omega (arith, e)));
  dash = λ path s. let e = s.0 in let same : codes "-x" ≡ path = cc e in s.1.1 (rw (← same) refl);
  empty = λ path s. let e = s.0 in let same : [] ≡ path = cc e in s.1.0 (sym same);
  no_rows = λ number rows s. let e = s.2 in let same : codes "0" ≡ s.1 = cc e in let value : digits_value 10 s.1 ≡ 0 = rw (← same) refl in let low = s.4.1 in let is = s.4.0.2 in omega arith;
}
