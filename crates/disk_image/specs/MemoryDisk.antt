-- What a disk in memory keeps: the file at its start, and a record of its calls.
use Rattle.std.specs.Prelude.{◌≡◌, ◌≤◌, ◌-◌, [], ◌∷◌, ℕ, Bool, true, false, List, Result, Ok, Err, length, take, drop, map, reverse, replicate}
use Rattle.outside.specs.Counts.{raised}
use Rattle.outside.specs.Numbering.{Numbering, NextFails, after_call}
use Rattle.disk_image.specs.Changes.{written, written_over, Torn, CutShort}
use Rattle.disk_image.specs.declared.fault.DiskFault.{DiskFault}
use Rattle.disk_image.specs.declared.fault.DiskFault.TheVariants.{Memory, Failed}
use Rattle.disk_image.specs.declared.record.Change.{Change}
use Rattle.disk_image.specs.declared.record.Change.TheVariants as held_change
use Rattle.disk_image.specs.declared.record.Call.{Call}
use Rattle.disk_image.specs.declared.record.Call.TheVariants as held_call
use Rattle.disk_image.specs.declared.record.Fill.{Fill}
use Rattle.disk_image.specs.declared.record.Fill.TheVariants.{Old, New, Ones}

-- bytes are written at a place, or the file is cut to a length
pub data FileChange : Type 0 where
  Writes : ℕ → List ℕ → FileChange
  Cuts : ℕ → FileChange

-- a call that changes nothing, a sync, and a change that was made or refused
pub data DiskCall : Type 0 where
  Looked : DiskCall
  Synced : DiskCall
  Changed : FileChange → DiskCall
  Refused : FileChange → DiskCall

-- the file at the start, the calls so far, the latest first, their numbers, and how many failed
pub record DiskState : Type 0 where
  pub start : List ℕ
  pub calls : List DiskCall
  pub numbered : Numbering
  pub faults : ℕ

-- ---- what a read gives

-- the file after a change
abbrev pub changed : FileChange → List ℕ → List ℕ
changed (Writes at bytes) file = written at bytes file
changed (Cuts n) file = take n file

-- the file after a call
abbrev pub read_after : DiskCall → List ℕ → List ℕ
read_after Looked file = file
read_after Synced file = file
read_after (Changed change) file = changed change file
read_after (Refused change) file = file

-- the file after the calls
abbrev pub reads_as : List ℕ → List DiskCall → List ℕ
reads_as start [] = start
reads_as start (call ∷ calls) = read_after call (reads_as start calls)

-- ---- what a crash may leave

-- what a crash may make of an image by a change to a file that had this end
abbrev pub MayTurnInto : ℕ → FileChange → List ℕ → List ℕ → Type 0
MayTurnInto end (Writes at bytes) old new = Torn end at (length bytes) old new
MayTurnInto end (Cuts n) old new = CutShort n old new

-- A crash after the calls may leave this. A refused change counts as made, and a sync keeps what is read.
abbrev pub CrashImage : List ℕ → List DiskCall → List ℕ → Type 0
CrashImage start [] image = image ≡ start
CrashImage start (Looked ∷ calls) image = CrashImage start calls image
CrashImage start (Synced ∷ calls) image = image ≡ reads_as start calls
CrashImage start (Changed change ∷ calls) image = (earlier : List ℕ) × CrashImage start calls earlier × MayTurnInto (length (reads_as start calls)) change earlier image
CrashImage start (Refused change ∷ calls) image = (earlier : List ℕ) × CrashImage start calls earlier × MayTurnInto (length (reads_as start calls)) change earlier image

-- the first so many of the calls
abbrev pub calls_until : ℕ → List DiskCall → List DiskCall
calls_until n calls = drop (length calls - n) calls

-- a crash image of the file behind a count of calls that is t or more
pub record CrashImageSince (start : List ℕ) (calls : List DiskCall) (t : ℕ) (image : List ℕ) : Type 0 where
  pub count : ℕ
  pub since : t ≤ count
  pub so_far : count ≤ length calls
  pub left : CrashImage start (calls_until count calls) image

-- ---- what a stop leaves

-- what is left of a change that isn't kept yet: nothing, all, or ones in the place of its bytes
abbrev pub filled_by : Fill → FileChange → List ℕ → List ℕ
filled_by Old change image = image
filled_by New change image = changed change image
filled_by Ones (Writes at bytes) image = written_over 1 at (replicate (length bytes) 1) image
filled_by Ones (Cuts n) image = take n image

-- what a stop behind a call leaves, from what is read before the call and what a stop left there
abbrev pub stopped_after : Fill → DiskCall → List ℕ → List ℕ → List ℕ
stopped_after fill Looked file image = image
stopped_after fill Synced file image = file
stopped_after fill (Changed change) file image = filled_by fill change image
stopped_after fill (Refused change) file image = filled_by fill change image

-- the file after a stop behind the calls
abbrev pub stopped : Fill → List ℕ → List DiskCall → List ℕ
stopped fill start [] = start
stopped fill start (call ∷ calls) = stopped_after fill call (reads_as start calls) (stopped fill start calls)

-- ---- the same of a state

abbrev pub clock_of : DiskState → ℕ
clock_of state = length state.calls

abbrev pub content_of : DiskState → List ℕ
content_of state = reads_as state.start state.calls

abbrev pub CrashImageNow : DiskState → List ℕ → Type 0
CrashImageNow state image = CrashImage state.start state.calls image

abbrev pub CrashImageSinceThen : DiskState → ℕ → List ℕ → Type 0
CrashImageSinceThen state t image = CrashImageSince state.start state.calls t image

-- A call was recorded as made, or as refused where it has the number of a call that fails; one for which no memory was
-- found has its number and isn't recorded.
abbrev pub IsCalled : {A : Type 0} → DiskCall → DiskCall → Result A DiskFault → DiskState → DiskState → Type 0
IsCalled made refused (Ok answer) old new = (¬ NextFails old.numbered) × (new ≡ record old { calls = made ∷ old.calls; numbered = after_call old.numbered })
IsCalled made refused (Err Memory) old new = new ≡ record old { numbered = after_call old.numbered }
IsCalled made refused (Err Failed) old new = NextFails old.numbered × (new ≡ record old { calls = refused ∷ old.calls; numbered = after_call old.numbered; faults = raised old.faults })

-- a call that fails was recorded, unless no memory was found for that
abbrev pub IsRefused : DiskCall → DiskFault → DiskState → DiskState → Type 0
IsRefused refused Memory old new = new ≡ old
IsRefused refused Failed old new = new ≡ record old { calls = refused ∷ old.calls; faults = raised old.faults }

-- a change was recorded as made, or as refused where it fails, unless no memory was found for that
abbrev pub IsSettled : Bool → FileChange → Result (Unit {0}) DiskFault → DiskState → DiskState → Type 0
IsSettled fails change (Ok done) old new = (fails ≡ false) × (new ≡ record old { calls = Changed change ∷ old.calls })
IsSettled fails change (Err Memory) old new = new ≡ old
IsSettled fails change (Err Failed) old new = (fails ≡ true) × (new ≡ record old { calls = Refused change ∷ old.calls; faults = raised old.faults })

-- ---- as they are held

abbrev pub change_of : Change → FileChange
change_of (held_change.Write at bytes) = Writes at bytes.items
change_of (held_change.Cut n) = Cuts n

abbrev pub call_of : Call → DiskCall
call_of held_call.Looked = Looked
call_of held_call.Synced = Synced
call_of (held_call.Changed change) = Changed (change_of change)
call_of (held_call.Refused change) = Refused (change_of change)

-- calls in their order, the latest first
abbrev pub latest_first : List Call → List DiskCall
latest_first calls = reverse (map call_of calls)
