-- The descriptor file that `cuboids` reads.
use Rattle.std.specs.Prelude.{◌≡◌, ◌∷◌, [], ◌++◌, ℕ, List, Option, Ok, Err, codes}
use Rattle.cube_desc.specs.Cube.{Cube}
use Rattle.cube_desc.specs.Meaning.{meaning}
use Rattle.desc_checks.specs.declared.kind.DescFault.{DescFault}
use Rattle.desc_checks.specs.declared.kind.DescKind.{DescKind}
use Rattle.desc_checks.specs.declared.kind.DescKind.TheVariants as kind
use Rattle.fault_lines.specs.Files.{IsFileAt, TellsFileAt}
use Rattle.outside.specs.Contents.{Paths}

-- the bytes of the file are not too many and describe the cube; they stand at the path, where the contents are told
abbrev pub DescribedAt : Option Paths → List ℕ → Cube → Type 0
DescribedAt contents path cube = IsFileAt contents path (λ bytes. meaning bytes ≡ Ok cube)

-- .. and are no descriptor, with this fault
abbrev pub MisdescribedAt : Option Paths → List ℕ → DescFault → Type 0
MisdescribedAt contents path fault = IsFileAt contents path (λ bytes. meaning bytes ≡ Err fault)

-- the contents are told, and the file at the path is not too large and describes the cube
abbrev pub TellsDescribedAt : Option Paths → List ℕ → Cube → Type 0
TellsDescribedAt contents path cube = TellsFileAt contents path (λ bytes. meaning bytes ≡ Ok cube)

-- .. and is no descriptor, with this fault
abbrev pub TellsMisdescribedAt : Option Paths → List ℕ → DescFault → Type 0
TellsMisdescribedAt contents path fault = TellsFileAt contents path (λ bytes. meaning bytes ≡ Err fault)

abbrev pub desc_kind_text : DescKind → List ℕ
desc_kind_text kind.NotJson = codes "NotJson"
desc_kind_text kind.Shape = codes "Shape"
desc_kind_text kind.TooMany = codes "TooMany"
desc_kind_text kind.BadName = codes "BadName"
desc_kind_text kind.Twice = codes "Twice"
desc_kind_text kind.BadType = codes "BadType"
desc_kind_text kind.NoTable = codes "NoTable"
desc_kind_text kind.NoColumn = codes "NoColumn"
desc_kind_text kind.BadJoin = codes "BadJoin"
desc_kind_text kind.BadPartition = codes "BadPartition"
desc_kind_text kind.BadDimension = codes "BadDimension"
desc_kind_text kind.BadMeasure = codes "BadMeasure"
desc_kind_text kind.BadRowkey = codes "BadRowkey"
desc_kind_text kind.BadGroup = codes "BadGroup"
desc_kind_text kind.TooManyCuboids = codes "TooManyCuboids"

-- a place, or a dash for the empty one
abbrev pub place_text : List ℕ → List ℕ
place_text [] = codes "-"
place_text (b ∷ bs) = b ∷ bs

-- the fault line of a descriptor: the kind and the place
abbrev pub bad_descriptor_line : DescFault → List ℕ
bad_descriptor_line fault = codes "fault: BadDescriptor " ++ (desc_kind_text fault.kind ++ 32 ∷ (place_text fault.place ++ 10 ∷ []))
