use Rattle.std.proofs.Common.{◌≡◌, ◌∙◌, List, ℕ, subst}
use Rattle.std.specs.Prelude.{IfOk}
use Rattle.byte_frame.specs.Frames.{frame_text}
use Rattle.step_files.specs.Files.{frame_with}
use Rattle.step_files.proofs.files.product_file.Goals as goal

pub returns : goal.returns
returns c = subst (λ (b : List ℕ). IfOk c.put_frame.result (λ v. v.items ≡ frame_text (frame_with c.args.digest.now b))) (c.as_slice.ensures.value ∙ c.in_ok-body.ensures) c.put_frame.ensures
