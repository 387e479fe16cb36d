-- Where the files of attempts stand.
use Rattle.std.specs.Prelude.{ℕ, List, ◌++◌, codes}
use Rattle.std.specs.Fmt.{decimal}

-- the path of the file of this kind of this attempt of this job
abbrev pub attempt_path : ℕ → ℕ → List ℕ → List ℕ
attempt_path job attempt kind = codes "cubes.work/job-" ++ (decimal job ++ (codes "-" ++ (decimal attempt ++ (codes "." ++ kind))))
