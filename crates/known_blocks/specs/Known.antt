-- The blocks that are known of the commands taken, beside the entries of a transcript.
use Rattle.std.specs.Prelude.{◌≡◌, ◌==◌, ◌&&◌, ◌++◌, ◌+◌, ◌∷◌, ⊤, ℕ, Bool, true, false, [], List, Option, Some, None, if◌then◌else◌}
use Rattle.run_transcript.specs.Entries.{Entry}
use Rattle.run_transcript.specs.Entries.Entry.{Told, Open}
use Rattle.script_text.specs.Blocks.{block_text}
use Rattle.script_text.specs.declared.block.Block.{Block}
use Rattle.known_blocks.specs.declared.known.Shown.{Shown}

-- ---- entries with their blocks

-- a block stands where the entry is told, and it is the entry's where its line is sure; none stands where the entry is open
abbrev pub IsShown : (ℕ → Type 0) → Entry → Option Block → Type 0
IsShown sure (Told line said) (Some block) = sure line → block ≡ said
IsShown sure (Told line said) None = ⊥
IsShown sure (Open line) (Some block) = ⊥
IsShown sure (Open line) None = ⊤

abbrev pub line_of_entry : Entry → ℕ
line_of_entry (Told line said) = line
line_of_entry (Open line) = line

abbrev pub AreShown : (ℕ → Type 0) → List Entry → List Shown → Type 0
AreShown sure [] [] = ⊤
AreShown sure (entry ∷ entries) (shown ∷ more) = (shown.line ≡ line_of_entry entry) × IsShown sure entry shown.block × AreShown sure entries more
AreShown sure [] (shown ∷ more) = ⊥
AreShown sure (entry ∷ entries) [] = ⊥

-- ---- a block more

abbrev pub has_none : Option Block → Bool
has_none None = true
has_none (Some block) = false

-- the query of this line has no block
abbrev pub is_open_of : ℕ → Shown → Bool
is_open_of line shown = (shown.line == line) && has_none shown.block

-- the block of the first query of this line that has none
abbrev pub with_block : ℕ → Block → List Shown → List Shown
with_block line said [] = []
with_block line said (shown ∷ more) = if is_open_of line shown then record shown { block = Some said } ∷ more else shown ∷ with_block line said more

-- ---- what may be written

-- the text of the blocks before the first one that isn't known
abbrev pub text_with : ℕ → Option Block → List ℕ → List ℕ
text_with line None rest = []
text_with line (Some block) rest = block_text line block ++ rest

abbrev pub known_text : List Shown → List ℕ
known_text [] = []
known_text (shown ∷ more) = text_with shown.line shown.block (known_text more)

-- how many blocks stand before the first one that isn't known
abbrev pub count_with : Option Block → ℕ → ℕ
count_with None rest = 0
count_with (Some block) rest = 1 + rest

abbrev pub known_count : List Shown → ℕ
known_count [] = 0
known_count (shown ∷ more) = count_with shown.block (known_count more)
