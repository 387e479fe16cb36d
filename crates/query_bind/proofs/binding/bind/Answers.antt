use Rattle.std.proofs.Common.{◌≡◌, Option, Some, sym, ap, ◌∙◌}
use Rattle.cube_desc.specs.Cube.{Cube}
use Rattle.sql_reader.specs.declared.tree.Query.{Query}
use Rattle.query_names.specs.Faults.{fault_of}
use Rattle.query_faults.specs.declared.bind.BindFault.{BindFault}
use Rattle.query_bind.proofs.binding.bind.Goals as goal

told : (b c : Cube) (q : Query) (o : Option BindFault) (f g : BindFault) → b ≡ c → o ≡ fault_of b q → o ≡ Some f → f ≡ g → fault_of c q ≡ Some g
told b c q o f g e h w same = sym (ap (λ x. fault_of x q) e) ∙ sym h ∙ w ∙ ap Some same

pub returns-in-Some-clause-fault : goal.returns-in-Some-clause-fault
returns-in-Some-clause-fault c =
    λ f e.
    let same : c.in-Some.fault ≡ f = cc in
    told c.parts.result.now c.args.desc.now.cube c.args.query.now _ c.in-Some.fault f c.parts.ensures.value c.first_fault.ensures c.in-Some.is same
