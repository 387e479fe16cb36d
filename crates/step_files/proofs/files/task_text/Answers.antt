use Rattle.std.proofs.Common.{◌≡◌, ◌∙◌, List, ℕ, subst}
use Rattle.std.specs.Prelude.{IfOk}
use Rattle.byte_frame.specs.Frames.{frame_text}
use Rattle.step_files.specs.Files.{frame_with, no_digest}
use Rattle.step_files.proofs.files.task_text.Goals as goal

pub returns : goal.returns
returns c = subst (λ (b : List ℕ). IfOk c.put_frame.result (λ v. v.items ≡ frame_text (frame_with no_digest b))) (c.as_slice.ensures.value ∙ c.in_ok-body.ensures) c.put_frame.ensures
