use Rattle.step_check.proofs.files.answer_first.Goals as goal

pub answer_task-requires : goal.answer_task-requires
answer_task-requires g c = c.in-Ok.ensures.found.0
