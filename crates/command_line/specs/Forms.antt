-- The forms of words, one for each command.
use Rattle.std.specs.Prelude.{ℕ, List, Option}
use Rattle.command_line.specs.declared.form.Form.{Form}
use Rattle.command_line.specs.declared.form.Form.TheVariants as form
use Rattle.command_line.specs.Words.{Say, run, demo, fold, cuboids, step}

-- the words have the form: they say a command of it
abbrev pub HasForm : Form → List (List ℕ) → Type 0
HasForm form.Run words = (path : List ℕ) × (workers : Option ℕ) × Say words (run path workers)
HasForm form.Demo words = (number : ℕ) × (rows : ℕ) × Say words (demo number rows)
HasForm form.Fold words = (path : List ℕ) × Say words (fold path)
HasForm form.Cuboids words = (path : List ℕ) × Say words (cuboids path)
HasForm form.Step words = (task : List ℕ) × (product : List ℕ) × (stop : List ℕ) × Say words (step task product stop)
