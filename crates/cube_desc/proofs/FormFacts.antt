-- What the form of each table of a cube keeps.
use Rattle.std.proofs.Common.{◌≡◌, ◌<◌, ℕ, zero, suc, length, Option, Some, None, refl, arith}
use Rattle.std.specs.Prelude.{All, slice_get}
use Rattle.std.proofs.lemmas.List.FromFn.{length-map-range_with_len}
use Rattle.cube_val.specs.declared.form.JoinStep.{JoinStep}
use Rattle.cube_desc.specs.Cube.{Cube}
use Rattle.cube_desc.specs.Forms.{cols_of, form_of, no_null_at, primary_of}
use Rattle.cube_desc.specs.Sound.{IsSound, columns_at}

-- for each column the form says whether a null may stand in it
pub form_no_null : (c : Cube) (t : ℕ) → length (form_of c t).no_null ≡ length (form_of c t).cols
form_no_null c t = length-map-range_with_len (no_null_at c t) 0 (length (cols_of (slice_get c.tables t)))

primary_there : (c : Cube) → IsSound c → (t : ℕ) (o : Option JoinStep) → slice_get c.plan.joins t ≡ o → All (λ place. place < length (columns_at c.tables (suc t))) (primary_of o)
primary_there c s t None e = λ k d h. absurd (omega arith)
primary_there c s t (Some j) e = (s.joined t j e).primary

-- the key's columns are there
pub form_key : (c : Cube) → IsSound c → (t : ℕ) → All (λ place. place < length (form_of c t).cols) (form_of c t).key
form_key c s zero = λ k d h. absurd (omega arith)
form_key c s (suc t) = primary_there c s t (slice_get c.plan.joins t) refl
