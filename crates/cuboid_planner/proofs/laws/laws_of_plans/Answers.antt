use Rattle.cuboid_planner.proofs.LawLemmas.{one_plan, trace_is_front, no_pick_twice, not_base}
use Rattle.cuboid_planner.proofs.laws.laws_of_plans.Goals as goal

pub returns : goal.returns
returns c = record { one = one_plan; front = trace_is_front; once = no_pick_twice; no_base = not_base }
