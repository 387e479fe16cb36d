-- How a run of the script at a path may end.
use Rattle.std.specs.Prelude.{◌≡◌, ◌⊎◌, ⊤, ℕ, List, [], Option, Result, Ok, Err}
use Rattle.coordinator.specs.Runs.{IsRunOver}
use Rattle.coordinator.specs.Served.{inputs_of}
use Rattle.outside.specs.Contents.{Paths}
use Rattle.run_history.specs.declared.event.Event.{Event}
use Rattle.run_inputs.specs.Inputs.{AreInputsAt, IsInputFault}
use Rattle.run_inputs.specs.declared.fault.InputFault.{InputFault}
use Rattle.run_inputs.specs.declared.fault.InputRefusal.{InputRefusal}
use Rattle.run_inputs.specs.declared.fault.InputRefusal.TheVariants.{Fault, Memory}
use Rattle.run_inputs.specs.declared.inputs.FixedInputs.{FixedInputs}
use Rattle.run_inputs.specs.Lines.{Refuses, status_of}
use Rattle.cubes_top.specs.Outside.{Outside}

-- the files gave inputs, and this is a run over them
pub record IsRunAt (honest : Type 0) (o : Outside) (path : List ℕ) (history : List Event) (status : ℕ) : Type 0 where
  pub given : FixedInputs
  pub inputs : AreInputsAt o.contents path given
  pub over : IsRunOver honest (inputs_of 1 given) history status o.before o.after
  pub which : (status ≡ 0) ⊎ (status ≡ 1) ⊎ (status ≡ 4)

-- why the files gave none
abbrev pub IsRefusalAt : Option Paths → List ℕ → InputRefusal → Type 0
IsRefusalAt contents path (Fault fault) = IsInputFault contents path fault
IsRefusalAt contents path Memory = ⊤

-- the files gave none: there is no event, and the fault has its status and its line
pub record IsRefusedAt (o : Outside) (path : List ℕ) (history : List Event) (status : ℕ) : Type 0 where
  pub refusal : InputRefusal
  pub why : IsRefusalAt o.contents path refusal
  pub none : history ≡ []
  pub refuses : Refuses o.sink_before o.sink_after o.before o.after refusal status

-- a run of the script at a path
abbrev pub IsRun : Type 0 → Outside → List ℕ → List Event → ℕ → Type 0
IsRun honest o path history status = IsRunAt honest o path history status ⊎ IsRefusedAt o path history status

-- the status over files that give this; want of memory and a read that fails may stand in its place
abbrev pub EndsAs : Result FixedInputs InputFault → ℕ → Type 0
EndsAs (Ok given) status = (status ≡ 0) ⊎ (status ≡ 4) ⊎ (status ≡ 1) ⊎ (status ≡ 3)
EndsAs (Err fault) status = (status ≡ status_of fault) ⊎ (status ≡ 1) ⊎ (status ≡ 3)
