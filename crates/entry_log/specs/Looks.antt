-- Calls that change nothing on a disk.
use Rattle.std.specs.Prelude.{◌≡◌, ◌≤◌, ℕ, List, Option}
use Rattle.disk_image.specs.Crashes.{CrashCondition, NoNewImage}

-- The disk reads as before, there is no new crash image, whatever a crash in between left was one before, and faults
-- don't fall.
pub record LeftAlone {D : Type 0} (content : D → Option (List ℕ)) (crash_image : D → List ℕ → Type 0) (clock : D → ℕ) (image_since : D → ℕ → List ℕ → Type 0) (faults : D → ℕ) (old new : D) : Type 0 where
  pub same : content new ≡ content old
  pub images : NoNewImage (crash_image old) (crash_image new)
  pub crash : CrashCondition clock image_since old new (crash_image old)
  pub no_fewer : faults old ≤ faults new
