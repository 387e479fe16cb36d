-- Records of calls to compute with, the latest call first.
use Rattle.std.specs.Prelude.{[], ◌∷◌, List}
use Rattle.disk_image.specs.MemoryDisk.{DiskCall, Changed, Refused, Synced, Looked, Writes, Cuts}

-- two bytes behind the first, and then one over it, which was refused
abbrev pub written_twice : List DiskCall
written_twice = Refused (Writes 0 (5 ∷ [])) ∷ Changed (Writes 1 (2 ∷ 3 ∷ [])) ∷ []

-- one byte behind the first, a sync and a look
abbrev pub kept : List DiskCall
kept = Looked ∷ Synced ∷ Changed (Writes 1 (2 ∷ [])) ∷ []

-- two bytes behind the first, of which one is cut off
abbrev pub cut_short : List DiskCall
cut_short = Changed (Cuts 2) ∷ Changed (Writes 1 (2 ∷ 3 ∷ [])) ∷ []

-- one byte behind the first
abbrev pub over_the_end : List DiskCall
over_the_end = Changed (Writes 1 (2 ∷ [])) ∷ []

-- one byte, with a gap of one before it
abbrev pub behind_the_end : List DiskCall
behind_the_end = Changed (Writes 2 (2 ∷ [])) ∷ []
