-- What the readers of files give, once the body of the frame has been taken.
use Rattle.std.proofs.Common.{◌≡◌, ◌∙◌, ℕ, List, Option, Some, None, ap, refl, sym}
use Rattle.byte_frame.specs.Reading.{◌>>=◌, all_of}
use Rattle.byte_frame.specs.FrameReading.{frame_at}
use Rattle.step_files.specs.Files.{body_in, body_of, no_digest, product_in, task_at}
use Rattle.step_files.specs.Products.{product_at}
use Rattle.step_files.specs.Tasks.{body_at}
use Rattle.step_files.specs.declared.task.Task.{Task}

bind_bind : {A B C : Type 0} (o : Option A) (f : A → Option B) (g : B → Option C) → (o >>= λ x. f x >>= g) ≡ ((o >>= f) >>= g)
bind_bind (Some x) f g = refl
bind_bind None f g = refl

pub task_with : (bytes : List ℕ) (body : Option (List ℕ)) → body ≡ body_of no_digest bytes → task_at bytes ≡ (body >>= λ b. all_of body_at b)
unfolding task_at
task_with bytes body e = bind_bind (frame_at bytes) (body_in no_digest) (λ b. all_of body_at b) ∙ ap (λ (o : Option (List ℕ)). o >>= λ b. all_of body_at b) (sym e)

pub product_with : (t : Task) (digest bytes : List ℕ) (body : Option (List ℕ)) → body ≡ body_of digest bytes → product_in t digest bytes ≡ (body >>= λ b. all_of (product_at t) b)
unfolding product_in
product_with t digest bytes body e = bind_bind (frame_at bytes) (body_in digest) (λ b. all_of (product_at t) b) ∙ ap (λ (o : Option (List ℕ)). o >>= λ b. all_of (product_at t) b) (sym e)
