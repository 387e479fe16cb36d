-- Small cases on which the definitions are computed.
use Rattle.std.specs.Prelude.{[], ◌∷◌, ℕ, List, Option, Some}
use Rattle.outside.specs.Hands.{Call, Fail, call_of}
use Rattle.outside.specs.Numbering.{Numbering}
use Rattle.outside.specs.declared.hand.HandFault.TheVariants.{Killed, NoFile}

-- two files with the path `f`, and then one with the path `g`
abbrev pub three_files : List (List ℕ × List ℕ)
three_files = (102 ∷ [], 1 ∷ 2 ∷ []) ∷ (102 ∷ [], 3 ∷ []) ∷ (103 ∷ [], []) ∷ []

-- no call yet, of which the second fails
abbrev pub second_fails : Numbering
second_fails = record { failing = 2 ∷ []; made = 0 }

-- attempt 2 of job 1 is killed first, and has no file then
abbrev pub two_fails : List Fail
two_fails = record { job = 1; attempt = 2; fault = Killed } ∷ record { job = 1; attempt = 2; fault = NoFile } ∷ []

-- two hands, each with one call
abbrev pub two_hands : List (Option (List Call))
two_hands = Some (call_of 1 1 [] ∷ []) ∷ Some (call_of 2 1 [] ∷ []) ∷ []
