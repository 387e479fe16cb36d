-- The files of tasks and of products, exactly.
use Rattle.std.proofs.Common.{◌≡◌, ◌≤◌, ◌<◌, ◌^◌, ◌++◌, ◌∙◌, ℕ, Bool, true, false, cond, eqb, List, length, Option, Some, None, refl, sym, ap, subst, arith}
use Rattle.std.specs.Prelude.{bytes_eq}
use Rattle.std.specs.Int.{w16, w64, to_be_bytes}
use Rattle.std.proofs.lemmas.Bool.{eqb-true}
use Rattle.std.proofs.lemmas.List.{drop_at, length-append, take_at}
use Rattle.std.proofs.lemmas.Slice.Eq.{bytes_eq-Decides}
use Rattle.sha2.specs.Sha256.{sha256}
use Rattle.sha2.proofs.Facts256.{length-sha256}
use Rattle.byte_frame.specs.Exact.{Exact, IsBytes}
use Rattle.byte_frame.specs.Reading.{◌>>=◌, all_of}
use Rattle.byte_frame.proofs.Exact.{IsBytes-drop, IsBytes-take, all_again, all_found, bind_some}
use Rattle.byte_frame.specs.Frames.{Frame, before_digest, frame_text, magic}
use Rattle.byte_frame.specs.FrameReading.{frame_at}
use Rattle.byte_frame.proofs.ExactFrames.{frame_again, frame_found}
use Rattle.step_files.specs.Files.{IsProductFile, IsTaskFile, body_in, digest_of, frame_with, no_digest, product_in, task_at, task_text}
use Rattle.step_files.specs.Tasks.{FitsTask}
use Rattle.step_files.specs.declared.product.Product.{Product}
use Rattle.step_files.specs.declared.task.Task.{Task}
use Rattle.step_files.proofs.ExactProducts.{exact_product}
use Rattle.step_files.proofs.ExactTasks.{exact_body}

bytes_same : (xs ys : List ℕ) → bytes_eq xs ys ≡ true → xs ≡ ys
bytes_same xs ys h = (bytes_eq-Decides xs ys).0 h

bytes_equal : (xs : List ℕ) → bytes_eq xs xs ≡ true
bytes_equal xs = (bytes_eq-Decides xs xs).1 refl

guard_on : {A : Type 0} (b : Bool) (r : Option A) (y : A) → cond b r None ≡ Some y → (b ≡ true) × (r ≡ Some y)
guard_on true r y e = (refl, e)
guard_on false r y e = absurd cc

-- ---- the body of a frame

same_frame : (f : Frame) (d : List ℕ) (body : List ℕ) → f.version ≡ 1 → f.task ≡ d → f.body ≡ body → f ≡ frame_with d body
same_frame f d body e g h = λ i. record { version = e i; task = g i; body = h i }

IsBytes-tail : (a e : List ℕ) → IsBytes (a ++ e) → IsBytes e
IsBytes-tail a e h = subst IsBytes (drop_at a e (length a) refl) (IsBytes-drop (length a) (a ++ e) h)

IsBytes-front : (a e : List ℕ) → IsBytes (a ++ e) → IsBytes a
IsBytes-front a e h = subst IsBytes (take_at a e (length a) refl) (IsBytes-take (length a) (a ++ e) h)

part_fits : (a b c d e x : List ℕ) → IsBytes ((a ++ (b ++ (c ++ (d ++ e)))) ++ x) → IsBytes e
part_fits a b c d e x h = IsBytes-tail d e (IsBytes-tail c (d ++ e) (IsBytes-tail b (c ++ (d ++ e)) (IsBytes-tail a (b ++ (c ++ (d ++ e))) (IsBytes-front (a ++ (b ++ (c ++ (d ++ e)))) x h))))

body_fits : (bytes : List ℕ) (f : Frame) → IsBytes bytes → bytes ≡ frame_text f → IsBytes f.body
body_fits bytes f fits e = part_fits magic (to_be_bytes w16 f.version) f.task (to_be_bytes w64 (length f.body)) f.body (sha256 (before_digest f)) (subst IsBytes e fits)

within_frame : (a b c d e x : List ℕ) → length e ≤ length ((a ++ (b ++ (c ++ (d ++ e)))) ++ x)
within_frame a b c d e x = omega (arith, length-append (a ++ (b ++ (c ++ (d ++ e)))) x, length-append a (b ++ (c ++ (d ++ e))), length-append b (c ++ (d ++ e)), length-append c (d ++ e), length-append d e)

body_short : (f : Frame) → length f.body ≤ length (frame_text f)
body_short f = within_frame magic (to_be_bytes w16 f.version) f.task (to_be_bytes w64 (length f.body)) f.body (sha256 (before_digest f))

-- a file whose body is read by one reader
module _ {A : Type 0} {s : A → List ℕ} {F : A → Type 0} {r : List ℕ → Option (A × List ℕ)} (read : Exact s F r) (digest : List ℕ) (wide : length digest ≡ 32) where
  file_found : (bytes : List ℕ) (x : A) → IsBytes bytes → (frame_at bytes >>= λ f. body_in digest f >>= λ body. all_of r body) ≡ Some x → F x × (bytes ≡ frame_text (frame_with digest (s x)))
  file_found bytes x fits e =
      let a = bind_some (frame_at bytes) (λ f. body_in digest f >>= λ body. all_of r body) x e in
      let b = bind_some (body_in digest a.0) (λ body. all_of r body) x a.2 in
      let g = guard_on (eqb a.0.version 1) (cond (bytes_eq a.0.task digest) (Some a.0.body) None) b.0 b.1 in
      let h = guard_on (bytes_eq a.0.task digest) (Some a.0.body) b.0 g.1 in
      let is : a.0.body ≡ b.0 = cc (h.1) in
      let frame = frame_found bytes a.0 fits a.1 in
      let found = all_found s F r read a.0.body x (body_fits bytes a.0 fits frame.text) (subst (λ (body : List ℕ). all_of r body ≡ Some x) (sym is) b.2) in
      (found.0, frame.text ∙ ap frame_text (same_frame a.0 digest (s x) (eqb-true _ _ g.0) (bytes_same a.0.task digest h.0) found.1))

  file_again : (x : A) → F x → length (frame_text (frame_with digest (s x))) < 2 ^ 64 → (frame_at (frame_text (frame_with digest (s x))) >>= λ f. body_in digest f >>= λ body. all_of r body) ≡ Some x
  file_again x h small =
      let len : length (s x) < 2 ^ 64 = omega (arith, body_short (frame_with digest (s x)), small) in
      let f : frame_at (frame_text (frame_with digest (s x))) ≡ Some (frame_with digest (s x)) = frame_again (frame_with digest (s x)) (record { version = omega arith; task = wide; body = len }) in
      rw (f, bytes_equal digest) (all_again s F r read x h)

-- ---- tasks

pub task_found : (bytes : List ℕ) (t : Task) → IsBytes bytes → task_at bytes ≡ Some t → IsTaskFile bytes t
unfolding task_at
task_found bytes t fits e = file_found exact_body no_digest refl bytes t fits e

-- bytes that are a task are read as it
pub task_again : (bytes : List ℕ) (t : Task) → length bytes < 2 ^ 64 → IsTaskFile bytes t → task_at bytes ≡ Some t
unfolding task_at
task_again bytes t small h = ap task_at h.1 ∙ file_again exact_body no_digest refl t h.0 (subst (λ (b : List ℕ). length b < 2 ^ 64) h.1 small)

pub no_task : (bytes : List ℕ) → length bytes < 2 ^ 64 → task_at bytes ≡ None → (t : Task) → ¬ (IsTaskFile bytes t)
no_task bytes small e t h = let same = task_again bytes t small h in cc

-- ---- products

pub product_found : (t : Task) (digest bytes : List ℕ) (p : Product) → FitsTask t → digest ≡ digest_of t → IsBytes bytes → product_in t digest bytes ≡ Some p → IsProductFile t bytes p
unfolding product_in
product_found t digest bytes p h same fits e =
    file_found (exact_product t h) (digest_of t) (length-sha256 (task_text t)) bytes p fits (subst (λ (d : List ℕ). product_in t d bytes ≡ Some p) same e)

pub no_product : (t : Task) (digest bytes : List ℕ) → FitsTask t → digest ≡ digest_of t → length bytes < 2 ^ 64 → product_in t digest bytes ≡ None → (p : Product) → ¬ (IsProductFile t bytes p)
unfolding product_in
no_product t digest bytes h same small e p g =
    let again = file_again (exact_product t h) (digest_of t) (length-sha256 (task_text t)) p g.0 (subst (λ (b : List ℕ). length b < 2 ^ 64) g.1 small) in
    let here : product_in t digest bytes ≡ Some p = ap (λ (d : List ℕ). product_in t d bytes) same ∙ ap (product_in t (digest_of t)) g.1 ∙ again in
    cc
