-- What the step of each task makes, as a file.
use Rattle.std.specs.Prelude.{ℕ, List, [], Option, Some, None, unwrap_or}
use Rattle.cube_desc.specs.Cube.{Cube}
use Rattle.cube_desc.specs.Meaning.{desc_of}
use Rattle.flat_join.specs.Flat.{flat_of}
use Rattle.step_files.specs.Files.{IsTaskFile, product_file, task_at}
use Rattle.step_files.specs.declared.product.Product.{Product}
use Rattle.step_files.specs.declared.product.Product.TheVariants as product
use Rattle.step_files.specs.declared.task.Task.{Task}
use Rattle.step_files.specs.declared.task.Task.TheVariants as task
use Rattle.step_compute.specs.Values.{base_value, dict_value, layer_value}

-- stands for the cube of bytes that are no descriptor; no task has such
abbrev pub no_cube : Cube
no_cube = record { name = []; tables = []; measures = []; rowkey = []; derived = []; groups = []; masks = []; plan = record { partition = 0; joins = []; wide = [] } }

-- the cube that bytes describe
unfoldable pub cube_in : List ℕ → Cube
cube_in desc = unwrap_or (desc_of desc) no_cube

-- what the step of a task makes
abbrev pub step_compute : Task → Product
step_compute (task.Flat desc range tables) = product.Flat (flat_of (cube_in desc) tables range)
step_compute (task.Dict desc flat) = product.Dicts (dict_value (cube_in desc) flat)
step_compute (task.Base desc flat dicts) = product.Base (base_value (cube_in desc) flat dicts)
step_compute (task.Layer desc dims sizes parents) = product.Cells (layer_value (cube_in desc).masks dims parents)
step_compute (task.Seal s) = product.Seal s

-- the file of that, which names the task
abbrev pub step_text : Task → List ℕ
step_text t = product_file t (step_compute t)

-- bytes that are a task
abbrev pub IsTask : List ℕ → Type 0
IsTask bytes = (t : Task) × IsTaskFile bytes t

abbrev pub text_of : Option Task → List ℕ
text_of None = []
text_of (Some t) = step_text t

-- what the step of the task that bytes are makes, as a file
unfoldable pub made_of : List ℕ → List ℕ
made_of bytes = text_of (task_at bytes)
