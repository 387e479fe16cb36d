use Rattle.std.proofs.Common.{◌∙◌, ap, arith, sym}
use Rattle.std.specs.Prelude.{option_map}
use Rattle.byte_frame.proofs.ExactFrames.{is_taken, is_torn}
use Rattle.byte_frame.specs.Frames.{frame_of}
use Rattle.byte_frame.proofs.frames.take_frame.Goals as goal

pub returns-clause-taken : goal.returns-clause-taken
returns-clause-taken c = is_taken (λ t. frame_of t.0 t.1.now) c.args.bytes.now c.ok_or.result (λ i. omega (arith, c.type_inv.bytes i)) (ap (option_map (λ t. frame_of t.0 t.1.now)) (sym c.ok_or.ensures.ok_part) ∙ c.take_sealed.ensures)

pub returns-clause-torn : goal.returns-clause-torn
returns-clause-torn c = is_torn (λ t. frame_of t.0 t.1.now) c.args.bytes.now c.ok_or.result (ap (option_map (λ t. frame_of t.0 t.1.now)) (sym c.ok_or.ensures.ok_part) ∙ c.take_sealed.ensures)
