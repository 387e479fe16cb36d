-- Functions of a condition, at the smallest ones.
use Rattle.std.proofs.Common.{◌≡◌, sym, ap, ◌∙◌}
use Rattle.plain_answer.specs.declared.cond.Cond.{fold-Cond, fold-roll-Cond}
use Rattle.plain_answer.specs.declared.cond.Cond.TheOpen.{Cond-F}
use Rattle.plain_answer.specs.declared.cond.Cond.TheVariants as cond
use Rattle.plain_answer.specs.declared.cond.Lit.{Lit}
use Rattle.plain_answer.specs.declared.cond.Term.{Term}
use Rattle.plain_answer.specs.declared.cond.Test.{Test}

module _ {A : Type 0} (step : Cond-F A → A) where
  pub at_true : fold-Cond A step cond.True ≡ step Cond-F.True
  at_true = ap (fold-Cond A step) (sym cond.rolls-True) ∙ fold-roll-Cond A step Cond-F.True

  pub at_compare : (term : Term) (test : Test) (lit : Lit) → fold-Cond A step (cond.Compare term test lit) ≡ step (Cond-F.Compare term test lit)
  at_compare term test lit = ap (fold-Cond A step) (sym (cond.rolls-Compare term test lit)) ∙ fold-roll-Cond A step (Cond-F.Compare term test lit)
