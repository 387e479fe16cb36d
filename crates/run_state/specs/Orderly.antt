-- What every state keeps beside the world.
use Rattle.std.specs.Prelude.{◌≡◌, ◌==◌, ◌<◌, ◌≤◌, ℕ, Bool, true, List, [], ◌∷◌}
use Rattle.std.specs.Coded.{×_prop, Unit-prop, le_prop, Coded-set, coded_bool}
use Rattle.std.specs.List.{list_any}
use Rattle.run_state.specs.declared.parts.Session.{Session}

-- the numbers rise strictly, the first above the low one, and none is above the high one
abbrev pub AreRising : ℕ → ℕ → List ℕ → Type 0
AreRising low high [] = low ≤ high
AreRising low high (n ∷ rest) = (low < n) × AreRising n high rest

abbrev pub has_session : List Session → ℕ → Bool
has_session sessions session = list_any (λ s. s.session == session) sessions

-- each of some sessions is listed
abbrev pub AreListed : List Session → List ℕ → Type 0
AreListed sessions [] = Unit {0}
AreListed sessions (session ∷ rest) = (has_session sessions session ≡ true) × AreListed sessions rest

-- each has one proof at most
pub AreRising-prop : (low high : ℕ) (numbers : List ℕ) → IsProp (AreRising low high numbers)
AreRising-prop low high [] = le_prop
AreRising-prop low high (n ∷ rest) = ×_prop le_prop (AreRising-prop n high rest)

pub AreListed-prop : (sessions : List Session) (listed : List ℕ) → IsProp (AreListed sessions listed)
AreListed-prop sessions [] = Unit-prop
AreListed-prop sessions (session ∷ rest) = ×_prop (Coded-set coded_bool (has_session sessions session) true) (AreListed-prop sessions rest)
