use Rattle.std.proofs.Common.{◌∙◌, ap, drop, sym}
use Rattle.job_list.specs.JobList.{has, without, NumberList}
use Rattle.job_list.proofs.Numbers.{has-front, without-front}
use Rattle.job_list.proofs.list.JobList.pop_front.Goals as goal

pub unlink-requires : goal.unlink-requires
unlink-requires c =
    ap (λ (v : NumberList). has v.items c.in-Some.id) (sym c.self.view_is) ∙ has-front _ c.in-Some.id (sym c.self.invariant.first ∙ c.in-Some.is)

pub returns-in-Some-clause-items : goal.returns-in-Some-clause-items
returns-in-Some-clause-items c =
    c.unlink.ensures.items ∙ (ap (λ (v : NumberList). without c.in-Some.id v.items) (sym c.self.view_is)
    ∙ (without-front _ c.in-Some.id c.self.invariant.distinct (sym c.self.invariant.first ∙ c.in-Some.is) ∙ ap (λ (v : NumberList). drop 1 v.items) c.self.view_is))
