use Rattle.std.proofs.Common.{not}
use Rattle.std.proofs.lemmas.List.Elements.{All-filter}
use Rattle.std.proofs.lemmas.List.Kept.{AllPairs-filter}
use Rattle.range_list.specs.Ranges.{Interval, IsRange, IsBefore}
use Rattle.auto_merge.specs.Expiry.{is_expired, last_end}
use Rattle.auto_merge.proofs.LawLemmas.{one_plan, plan_taken}
use Rattle.auto_merge.proofs.laws.laws_of_plans.Goals as goal

pub returns-clause-one : goal.returns-clause-one
returns-clause-one c = λ rs days retain a b apart h k.
    let stays = λ (r : Interval). not (is_expired retain (last_end rs) r) in
    one_plan rs days retain a b apart (All-filter stays IsRange rs apart.0, AllPairs-filter IsBefore stays rs apart.1) h k

pub returns-clause-taken : goal.returns-clause-taken
returns-clause-taken c = λ rs days retain a apart h. (h.left, plan_taken rs days retain a apart h, h.no_more)
