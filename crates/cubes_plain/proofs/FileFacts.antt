-- What is told of the file at a path agrees with what was read.
use Rattle.std.proofs.Common.{◌≡◌, ℕ, List, Option, Ok, Err, sym, ◌∙◌}
use Rattle.cube_desc.specs.Cube.{Cube}
use Rattle.cube_desc.specs.Meaning.{meaning}
use Rattle.cube_val.specs.declared.val.Val.{Val}
use Rattle.desc_checks.specs.declared.kind.DescFault.{DescFault}
use Rattle.fault_lines.proofs.FileFacts.{not_told}
use Rattle.outside.specs.Contents.{Paths}
use Rattle.table_reader.specs.declared.fault.TableFault.{TableFault}
use Rattle.table_reader.proofs.OutcomeFacts.{table_has_no_fault}
use Rattle.cubes_plain.specs.Descriptors.{DescribedAt, MisdescribedAt, TellsDescribedAt, TellsMisdescribedAt}
use Rattle.cubes_plain.specs.Files.{AcceptedAt, FaultyAt, TellsAcceptedAt, TellsFaultyAt}
use Rattle.cubes_plain.specs.Tables.{IsFoldFault, IsFoldTable, fold_form}

-- a table has no fault
pub not_faulty : (contents : Option Paths) (path : List ℕ) (rows : List (List Val)) (fault : TableFault) → AcceptedAt contents path rows → TellsFaultyAt contents path fault → ⊥
not_faulty contents path rows fault =
    not_told contents path (λ bytes. IsFoldTable bytes rows) (λ bytes. IsFoldFault bytes fault) (λ bytes a f. table_has_no_fault fold_form bytes rows fault a f)

pub not_accepted : (contents : Option Paths) (path : List ℕ) (rows : List (List Val)) (fault : TableFault) → FaultyAt contents path fault → TellsAcceptedAt contents path rows → ⊥
not_accepted contents path rows fault =
    not_told contents path (λ bytes. IsFoldFault bytes fault) (λ bytes. IsFoldTable bytes rows) (λ bytes f a. table_has_no_fault fold_form bytes rows fault a f)

-- a descriptor has no fault
one_meaning : (bytes : List ℕ) (cube : Cube) (fault : DescFault) → meaning bytes ≡ Ok cube → meaning bytes ≡ Err fault → ⊥
one_meaning bytes cube fault a f = let both : Err fault ≡ Ok cube = sym f ∙ a in cc

pub not_misdescribed : (contents : Option Paths) (path : List ℕ) (cube : Cube) (fault : DescFault) → DescribedAt contents path cube → TellsMisdescribedAt contents path fault → ⊥
not_misdescribed contents path cube fault =
    not_told contents path (λ bytes. meaning bytes ≡ Ok cube) (λ bytes. meaning bytes ≡ Err fault) (λ bytes a f. one_meaning bytes cube fault a f)

pub not_described : (contents : Option Paths) (path : List ℕ) (cube : Cube) (fault : DescFault) → MisdescribedAt contents path fault → TellsDescribedAt contents path cube → ⊥
not_described contents path cube fault =
    not_told contents path (λ bytes. meaning bytes ≡ Err fault) (λ bytes. meaning bytes ≡ Ok cube) (λ bytes f a. one_meaning bytes cube fault a f)
