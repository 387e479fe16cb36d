use Rattle.std.proofs.Common.{◌∙◌, ℕ, List, take, sym, subst, arith}
use Rattle.std.specs.List.{AllZip}
use Rattle.run_inputs.specs.Inputs.{IsLoadedAt, loads_of}
use Rattle.run_inputs.specs.declared.fault.InputRefusal.TheVariants.{Fault}
use Rattle.run_inputs.specs.declared.fault.InputFault.TheVariants.{ReadFault}
use Rattle.run_inputs.specs.declared.inputs.LoadedTable.{LoadedTable}
use Rattle.run_inputs.proofs.Faults.{fault_of_loads, loads_more, rose_later, same_refusal}
use Rattle.run_inputs.proofs.inputs.read_tables.Goals as goal

pub loop-line-preserved : goal.loop-line-preserved
loop-line-preserved g c =
    let script = c.args.script.now in
    let i = c.loop-line.line-index in
    let same = rw c.loop-line.invariant.2 at c.in-Ok-read_load.ensures.ok in (
      subst (λ (x : List (ℕ × List ℕ)). AllZip (IsLoadedAt (g.F.Files.contents c.args.files.now)) x c.read_load.new.tables)
          (sym (loads_more script i c.line-item.result c.loop-line-test.true c.line-item.is)) (same (loads_of (take i script)) c.loop-line.invariant.0),
      c.in-Ok-read_load.ensures.fits c.loop-line.invariant.1,
      c.read_load.ensures.contents ∙ c.loop-line.invariant.2,
      omega (arith, c.read_load.ensures.faults, c.loop-line.invariant.3),
      c.read_load.ensures.write_faults ∙ c.loop-line.invariant.4,
    )

pub returns-in-Err-clause-fault : goal.returns-in-Err-clause-fault
returns-in-Err-clause-fault g c = λ f e.
    let same = rw c.loop-line.invariant.2 at c.in-Err.ensures.fault in
    fault_of_loads (g.F.Files.contents c.args.files.now) c.args.script.now c.loop-line.line-index c.line-item.result c.loop-line.tables f c.loop-line-test.true c.line-item.is
    c.loop-line.invariant.0 (same f (same_refusal (List LoadedTable) (Unit {0}) c.in-Err.refusal (Fault f) e))

pub returns-in-Err-clause-read : goal.returns-in-Err-clause-read
returns-in-Err-clause-read g c = λ at e.
    rose_later _ _ _ c.loop-line.invariant.3 (c.in-Err.ensures.read at (same_refusal (List LoadedTable) (Unit {0}) c.in-Err.refusal (Fault (ReadFault at)) e))
