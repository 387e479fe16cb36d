-- The files of tasks and of products.
use Rattle.std.specs.Prelude.{◌≡◌, ◌==◌, ℕ, List, Option, Some, None, bytes_eq, replicate, if◌then◌else◌}
use Rattle.byte_frame.specs.Reading.{◌>>=◌, all_of}
use Rattle.byte_frame.specs.Frames.{Frame, frame_text}
use Rattle.byte_frame.specs.FrameReading.{frame_at}
use Rattle.sha2.specs.Sha256.{sha256}
use Rattle.step_files.specs.Products.{FitsProduct, product_at, product_body}
use Rattle.step_files.specs.Tasks.{FitsTask, body_at, task_body}
use Rattle.step_files.specs.declared.product.Product.{Product}
use Rattle.step_files.specs.declared.task.Task.{Task}

-- the digest of a task's frame: it answers no task
abbrev pub no_digest : List ℕ
no_digest = replicate 32 0

abbrev pub frame_with : List ℕ → List ℕ → Frame
frame_with digest body = record { version = 1; task = digest; body = body }

-- the file of a task
abbrev pub task_text : Task → List ℕ
task_text t = frame_text (frame_with no_digest (task_body t))

-- the digest of a task's file
abbrev pub digest_of : Task → List ℕ
digest_of t = sha256 (task_text t)

-- the file of a product of the task whose file has this digest
abbrev pub file_of : List ℕ → Product → List ℕ
file_of digest p = frame_text (frame_with digest (product_body p))

-- the file of a product of the task
abbrev pub product_file : Task → Product → List ℕ
product_file t p = file_of (digest_of t) p

-- bytes that are this task
abbrev pub IsTaskFile : List ℕ → Task → Type 0
IsTaskFile bytes t = FitsTask t × (bytes ≡ task_text t)

-- bytes that are this product of the task
abbrev pub IsProductFile : Task → List ℕ → Product → Type 0
IsProductFile t bytes p = FitsProduct t p × (bytes ≡ product_file t p)

-- ---- readers

-- the body of a frame of version 1 with this digest
abbrev pub body_in : List ℕ → Frame → Option (List ℕ)
body_in digest f = if f.version == 1 then (if bytes_eq f.task digest then Some f.body else None) else None

-- the body of the frame of version 1 with this digest that bytes are
abbrev pub body_of : List ℕ → List ℕ → Option (List ℕ)
body_of digest bytes = frame_at bytes >>= λ f. body_in digest f

unfoldable pub task_at : List ℕ → Option Task
task_at bytes = frame_at bytes >>= λ f. body_in no_digest f >>= λ body. all_of body_at body

unfoldable pub product_in : Task → List ℕ → List ℕ → Option Product
product_in t digest bytes = frame_at bytes >>= λ f. body_in digest f >>= λ body. all_of (product_at t) body
