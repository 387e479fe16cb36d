-- What a recorded call does to a state.
use Rattle.std.proofs.Common.{◌≤◌, ◌<◌, ◌^◌, ℕ, List, Result, Ok, Err, sym, subst, arith}
use Rattle.outside.specs.Counts.{raised}
use Rattle.disk_image.specs.Crashes.{PassesTime, NoNewImage}
use Rattle.disk_image.specs.MemoryDisk.{DiskCall, DiskState, IsCalled, CrashImageSinceThen, Looked, CrashImage, CrashImageNow, Synced, clock_of}
use Rattle.disk_image.specs.MemoryLaws.{reading_is_image}
use Rattle.disk_image.specs.declared.fault.DiskFault.{DiskFault}
use Rattle.disk_image.specs.declared.fault.DiskFault.TheVariants.{Memory, Failed}
use Rattle.disk_image.proofs.Images.{time_over, no_time}

abbrev TimeGoesOn : DiskState → DiskState → Type 0
TimeGoesOn old new = PassesTime (clock_of old) (clock_of new) (CrashImageSinceThen old) (CrashImageSinceThen new) (CrashImageNow new)

pub time_goes_on : {A : Type 0} (made refused : DiskCall) (result : Result A DiskFault) (old new : DiskState) → IsCalled made refused result old new → TimeGoesOn old new
time_goes_on made refused (Ok answer) old new called = subst (TimeGoesOn old) (sym called.1) (time_over old.start made old.calls)
time_goes_on made refused (Err Memory) old new called = subst (TimeGoesOn old) (sym called) (no_time old.start old.calls)
time_goes_on made refused (Err Failed) old new called = subst (TimeGoesOn old) (sym called.1) (time_over old.start refused old.calls)

raised_above : (n : ℕ) → n < 2 ^ 64 → n ≤ raised n
raised_above n below = omega arith

pub faults_rise : {A : Type 0} (made refused : DiskCall) (result : Result A DiskFault) (old new : DiskState) → IsCalled made refused result old new → old.faults < 2 ^ 64 → old.faults ≤ new.faults
faults_rise made refused (Ok answer) old new called below = subst (λ (s : DiskState). old.faults ≤ s.faults) (sym called.1) (omega arith)
faults_rise made refused (Err Memory) old new called below = subst (λ (s : DiskState). old.faults ≤ s.faults) (sym called) (omega arith)
faults_rise made refused (Err Failed) old new called below = subst (λ (s : DiskState). old.faults ≤ s.faults) (sym called.1) (raised_above old.faults below)

-- a sync only takes images away
pub sync_within : {A : Type 0} (result : Result A DiskFault) (old new : DiskState) → IsCalled Synced Looked result old new → NoNewImage (CrashImageNow old) (CrashImageNow new)
sync_within (Ok answer) old new called = subst (λ (s : DiskState). NoNewImage (CrashImageNow old) (CrashImageNow s)) (sym called.1) (λ image is. subst (λ (l : List ℕ). CrashImage old.start old.calls l) (sym is) (reading_is_image old.start old.calls))
sync_within (Err Memory) old new called = subst (λ (s : DiskState). NoNewImage (CrashImageNow old) (CrashImageNow s)) (sym called) (λ image left. left)
sync_within (Err Failed) old new called = subst (λ (s : DiskState). NoNewImage (CrashImageNow old) (CrashImageNow s)) (sym called.1) (λ image left. left)
