-- What words leave that are no run and no step: what `run_plain` says of them.
use Rattle.std.specs.Prelude.{◌≡◌, ◌⊎◌, ℕ, List}
use Rattle.std.specs.declared.alloc.Global.{Global}
use Rattle.std.specs.declared.string.String.{String}
use Rattle.cube_desc.specs.Cube.{Cube}
use Rattle.cube_val.specs.declared.val.Val.{Val}
use Rattle.cubes_plain.specs.Descriptors.{DescribedAt, MisdescribedAt, TellsDescribedAt, TellsMisdescribedAt, bad_descriptor_line}
use Rattle.cubes_plain.specs.Files.{AcceptedAt, FaultyAt, TellsAcceptedAt, TellsFaultyAt}
use Rattle.cubes_plain.specs.Folds.{fold_text}
use Rattle.cubes_plain.specs.Tables.{fold_names}
use Rattle.cubes_plain.specs.Words.{IsCuboids, IsFold, IsOver}
use Rattle.cuboid_lines.specs.Lines.{cuboids_text}
use Rattle.desc_checks.specs.declared.kind.DescFault.{DescFault}
use Rattle.fault_lines.specs.Files.{TellsLongerAt, TellsNothingAt, most_bytes}
use Rattle.fault_lines.specs.Lines.{Appends, AppendsAll, read_fault_line, too_large_line}
use Rattle.fault_lines.specs.Tables.{bad_table_line}
use Rattle.outside.specs.Contents.{IsLongerAt}
use Rattle.outside.specs.Written.{AppendsPart}
use Rattle.table_reader.specs.declared.fault.TableFault.{TableFault}
use Rattle.cubes_top.specs.Outside.{HasNoFault, Outside}

-- one fault line
abbrev pub HasLine : Outside → List ℕ → Type 0
HasLine o line = Appends o.sink_before o.sink_after o.before o.after line

-- ---- a status by its number, and what then was the case

-- done: the text of the command
abbrev pub IsDone : List (String Global) → Outside → Type 0
IsDone words o =
    ((path : List ℕ) × (rows : List (List Val)) × IsFold words path × AcceptedAt o.contents path rows × AppendsAll o.before o.after (fold_text rows))
    ⊎ ((path : List ℕ) × (cube : Cube) × IsCuboids words path × DescribedAt o.contents path cube × AppendsAll o.before o.after (cuboids_text cube))

-- a write failed: a part of the text
abbrev pub IsCutOff : List (String Global) → Outside → Type 0
IsCutOff words o =
    ((path : List ℕ) × (rows : List (List Val)) × IsFold words path × AcceptedAt o.contents path rows × AppendsPart o.before o.after (fold_text rows))
    ⊎ ((path : List ℕ) × (cube : Cube) × IsCuboids words path × DescribedAt o.contents path cube × AppendsPart o.before o.after (cuboids_text cube))

abbrev pub IsUnread : List (String Global) → Outside → Type 0
IsUnread words o = (path : List ℕ) × IsOver words path × HasLine o (read_fault_line path)

abbrev pub IsMisdescribed : List (String Global) → Outside → Type 0
IsMisdescribed words o =
    (path : List ℕ) × (fault : DescFault) × IsCuboids words path × MisdescribedAt o.contents path fault × HasLine o (bad_descriptor_line fault)

abbrev pub IsFaulty : List (String Global) → Outside → Type 0
IsFaulty words o =
    (path : List ℕ) × (fault : TableFault) × IsFold words path × FaultyAt o.contents path fault × HasLine o (bad_table_line fold_names path fault)

abbrev pub IsTooLarge : List (String Global) → Outside → Type 0
IsTooLarge words o = (path : List ℕ) × IsOver words path × IsLongerAt o.contents path most_bytes × HasLine o (too_large_line path)

-- the status, with what was the case; and what it is over files that tell what stands at the path
pub record IsPlain (words : List (String Global)) (o : Outside) (status : ℕ) : Type 0 where
  pub which : (status ≡ 0) ⊎ (status ≡ 1) ⊎ (status ≡ 2) ⊎ (status ≡ 3) ⊎ (status ≡ 4) ⊎ (status ≡ 7) ⊎ (status ≡ 8) ⊎ (status ≡ 10)
  pub done : status ≡ 0 → IsDone words o
  pub memory : status ≡ 1 → o.after ≡ o.before
  pub read_fault : status ≡ 3 → IsUnread words o
  pub write_fault : status ≡ 4 → IsCutOff words o
  pub bad_descriptor : status ≡ 7 → IsMisdescribed words o
  pub bad_table : status ≡ 8 → IsFaulty words o
  pub too_large : status ≡ 10 → IsTooLarge words o
  pub nothing_there : (path : List ℕ) → IsOver words path → TellsNothingAt o.contents path → (status ≡ 3) ⊎ (status ≡ 1)
  pub longer : (path : List ℕ) → IsOver words path → TellsLongerAt o.contents path → (status ≡ 10) ⊎ (status ≡ 1)
  pub misdescribed : (path : List ℕ) (fault : DescFault) → IsCuboids words path → TellsMisdescribedAt o.contents path fault → (status ≡ 7) ⊎ (status ≡ 3) ⊎ (status ≡ 1)
  pub faulty : (path : List ℕ) (fault : TableFault) → IsFold words path → TellsFaultyAt o.contents path fault → (status ≡ 8) ⊎ (status ≡ 3) ⊎ (status ≡ 1)
  pub accepted : (path : List ℕ) (rows : List (List Val)) → IsFold words path → TellsAcceptedAt o.contents path rows → HasNoFault o → (status ≡ 0) ⊎ (status ≡ 1)
  pub described : (path : List ℕ) (cube : Cube) → IsCuboids words path → TellsDescribedAt o.contents path cube → HasNoFault o → (status ≡ 0) ⊎ (status ≡ 1)
