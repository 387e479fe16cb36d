use Rattle.std.proofs.Common.{◌∙◌, ap}
use Rattle.std.specs.Prelude.{is_some}
use Rattle.job_list.specs.JobList.{has, NumberList}
use Rattle.job_list.specs.Links.{slot_at}
use Rattle.job_list.proofs.Splices.{has-IsLinked}
use Rattle.job_list.proofs.list.JobList.contains.Goals as goal

pub returns : goal.returns
returns c =
    c.is_listed.ensures ∙ (ap (λ slots. is_some (slot_at slots c.args.id)) c.deref.ensures.value
    ∙ (has-IsLinked _ _ _ _ _ c.self.invariant c.args.id ∙ ap (λ (v : NumberList). has v.items c.args.id) c.self.view_is))
