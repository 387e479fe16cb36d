-- What is answered of a fault is answered of its refusal.
use Rattle.std.proofs.Common.{◌≡◌, ℕ, List, Option, sym, subst}
use Rattle.run_inputs.specs.declared.fault.InputFault.{InputFault}
use Rattle.run_inputs.specs.declared.fault.InputRefusal.{InputRefusal}
use Rattle.run_inputs.specs.declared.fault.InputRefusal.TheVariants.{Fault}
use Rattle.run_inputs.specs.Lines.{Answers, Refuses}

pub refused_as : (faults_old faults_new : ℕ) (old new : Option (List ℕ)) (refusal : InputRefusal) (fault : InputFault) (status : ℕ) → refusal ≡ Fault fault
    → Answers faults_old faults_new old new fault status → Refuses faults_old faults_new old new refusal status
refused_as faults_old faults_new old new refusal fault status e h = subst (λ (r : InputRefusal). Refuses faults_old faults_new old new r status) (sym e) h
