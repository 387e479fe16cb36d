use Rattle.std.proofs.Common.{◌∙◌, ap}
use Rattle.run_inputs.specs.declared.fault.InputFault.TheVariants.{BadTable, ReadFault, TooLarge}
use Rattle.run_inputs.specs.declared.fault.InputRefusal.TheVariants.{Fault}
use Rattle.run_inputs.proofs.Refusals.{refused_as}
use Rattle.run_inputs.proofs.refusal.refuse_inputs.Goals as goal

pub returns-in-Fault-ReadFault : goal.returns-in-Fault-ReadFault
returns-in-Fault-ReadFault g c =
    let x = c.in-Fault-ReadFault in
    refused_as _ _ _ _ c.args.refusal (ReadFault x.path) c.refuse_unread.result (x.is ∙ ap Fault x.field-0-is)
    (record { which = c.refuse_unread.ensures.status; line = rw c.as_str.ensures at c.refuse_unread.ensures.line; nothing = c.refuse_unread.ensures.memory })

pub returns-in-Fault-TooLarge : goal.returns-in-Fault-TooLarge
returns-in-Fault-TooLarge g c =
    let x = c.in-Fault-TooLarge in
    let r = c.refuse_too_large in
    refused_as _ _ _ _ c.args.refusal (TooLarge x.path) r.result (x.is ∙ ap Fault x.field-0-is)
    (record { which = r.ensures.status; line = rw c.as_str-in-Fault-TooLarge.ensures at r.ensures.line; nothing = r.ensures.memory })

pub returns-in-Fault-BadTable : goal.returns-in-Fault-BadTable
returns-in-Fault-BadTable g c =
    let x = c.in-Fault-BadTable in
    refused_as _ _ _ _ c.args.refusal (BadTable x.path x.fault) c.refuse_table.result (x.is ∙ ap Fault x.field-0-is)
    (record { which = c.refuse_table.ensures.status; line = rw c.as_str-in-Fault-BadTable.ensures at c.refuse_table.ensures.line; nothing = c.refuse_table.ensures.memory })
