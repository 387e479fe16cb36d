use Rattle.std.proofs.Common.{◌≡◌, ◌-◌, ◌∙◌, ◌++◌, ℕ, List, length, drop, ap, arith, sym}
use Rattle.entry_log.specs.Logs.{entry_text, gated_at}
use Rattle.entry_log.proofs.Reading.{behind_front, entry_taken, no_frame_gated}
use Rattle.entry_log.proofs.read.split_entry.Goals as goal

pub returns-in_err-body-clause-none : goal.returns-in_err-body-clause-none
returns-in_err-body-clause-none c = rw c.from_residual-in_err-body.ensures (no_frame_gated c.args.bytes.now c.in_ok-frame.frame.now c.take_gated.new.r (ap gated_at (sym c.new-r.ensures) ∙ c.in_ok-frame.ensures.some) c.in_err-body.ensures.none)

-- what is left is what stands behind the entry
pub returns-clause-some : goal.returns-clause-some
returns-clause-some c =
    let taken = entry_taken c.args.bytes.now c.in_ok-frame.frame.now c.in_ok-body.body.now c.take_gated.new.r (λ i. omega (arith, c.type_inv.bytes i)) (ap gated_at (sym c.new-r.ensures) ∙ c.in_ok-frame.ensures.some) c.in_ok-body.ensures.some in
    let place : c.saturating_sub.result ≡ length c.args.bytes.now - length c.take_gated.new.r = omega (arith, c.saturating_sub.ensures, c.left.ensures) in
    let rest : c.split_at.result.1.now ≡ c.take_gated.new.r = c.split_at.ensures.back ∙ ap (λ (k : ℕ). drop k c.args.bytes.now) place ∙ behind_front c.args.bytes.now (entry_text c.in_ok-body.body.now) c.take_gated.new.r taken.1 in
    (taken.0, taken.1 ∙ ap (λ (l : List ℕ). entry_text c.in_ok-body.body.now ++ l) (sym rest))
