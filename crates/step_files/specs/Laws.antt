-- What holds of all step files.
use Rattle.std.specs.Prelude.{◌≡◌, ℕ, List, Some}
use Rattle.byte_frame.specs.Exact.{Exact}
use Rattle.cube_desc.specs.Cube.{Cube}
use Rattle.cube_desc.specs.Meaning.{desc_of}
use Rattle.step_codec.specs.Layouts.{IsLayout}
use Rattle.step_files.specs.Cubes.{layout_of}
use Rattle.step_files.specs.Products.{FitsProduct, product_at, product_body}
use Rattle.step_files.specs.Tasks.{FitsTask, body_at, task_body}
use Rattle.step_files.specs.declared.task.Task.{Task}

-- the bodies of tasks, and for each valid task those of its products, are read exactly
pub record BodiesAreExact : Type 0 where
  pub task : Exact task_body FitsTask body_at
  pub product : (t : Task) → FitsTask t → Exact product_body (FitsProduct t) (product_at t)

-- the layout of a cube that bytes describe is one by which step files are read
abbrev pub LayoutsHold : Type 0
LayoutsHold = (bytes : List ℕ) (c : Cube) → desc_of bytes ≡ Some c → IsLayout (layout_of c)
