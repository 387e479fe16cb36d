-- Claims and ends of steps: what the coordinator keeps.
use Rattle.std.proofs.Common.{◌≡◌, ℕ, Option, Some, None, Result, Ok, Err, List, [], ◌∷◌, fold, drop, slice_get, refl, sym, ap, ◌∙◌, subst, append-nil}
use Rattle.std.specs.List.{AllByRecursion}
use Rattle.std.specs.Prelude.{IfOk, IfSome}
use Rattle.job_board.specs.Ledger.{IsTask, cube}
use Rattle.job_board.specs.BoardModel.{IsAdded, IsSame, BoardModel, now, turns}
use Rattle.job_board.specs.declared.answers.Work.{Work}
use Rattle.plain_answer.specs.declared.ask.Ask.{Ask as Query}
use Rattle.run_history.specs.Commands.{Turn}
use Rattle.run_history.specs.Commands.Turn.{Takes, Claims, StepEnds, QueryTakes, QueryEnds}
use Rattle.run_history.specs.Histories.{IsNextAttempt}
use Rattle.run_history.specs.Steps.{step}
use Rattle.run_history.specs.World.{Submitted, World, job_of, next_task}
use Rattle.run_history.specs.declared.event.Outcome.{Outcome}
use Rattle.run_transcript.specs.Opens.{AreTold}
use Rattle.run_transcript.specs.Served.{Inputs}
use Rattle.coordinator.specs.Claims.{IsClaimed, IsStepping}
use Rattle.coordinator.specs.Coordinator.{IsIdle, IsOfStep, IsSound, IsWorked, RisesFrom}
use Rattle.coordinator.proofs.Boards.{added-same, grown-added, grown-same, grown-then, no-stops-worked, now-grown, now-same, worked-entries, worked-lines, worked-named}
use Rattle.coordinator.proofs.Ends.{task-claimed}
use Rattle.coordinator.proofs.Idle.{idle-end, line-claim, line-end, stepping-claim}

-- no turn
pub worked-same : (old new : BoardModel) → IsSame old new → IsWorked old new
worked-same old new s = record { later = []; steps = tt; grown = grown-same old new s }

-- a claim alone
pub worked-claim : (old new : BoardModel) (job attempt : ℕ) → IsAdded old (Claims job attempt) new → IsWorked old new
worked-claim old new job attempt a = record { later = Claims job attempt ∷ []; steps = (tt, tt); grown = grown-added old (Claims job attempt) new a }

-- a claim with its end
pub worked-step : (old mid new : BoardModel) (job attempt : ℕ) (outcome : Outcome) → IsAdded old (Claims job attempt) mid → IsAdded mid (StepEnds job attempt outcome) new → IsWorked old new
worked-step old mid new job attempt outcome a e = record {
  later = Claims job attempt ∷ StepEnds job attempt outcome ∷ [];
  steps = (tt, (tt, tt));
  grown = grown-then old mid new (Claims job attempt ∷ []) (StepEnds job attempt outcome ∷ []) (grown-added old (Claims job attempt) mid a)
      (grown-added mid (StepEnds job attempt outcome) new e);
}

-- after calls that leave the board as it is
pub worked-then : (old mid new : BoardModel) → IsWorked old mid → IsSame mid new → IsWorked old new
worked-then old mid new w s = record {
  later = w.later;
  steps = w.steps;
  grown = record { turns = (let g = grown-same mid new s in g.turns ∙ (append-nil (turns mid) ∙ w.grown.turns)); workers = s.workers ∙ w.grown.workers };
}

-- the world after a claim and after an end
pub now-claimed : (old new : BoardModel) (job attempt : ℕ) → IsAdded old (Claims job attempt) new → now new ≡ step cube (now old) (Claims job attempt)
now-claimed old new job attempt a = now-grown old new (Claims job attempt ∷ []) (grown-added old (Claims job attempt) new a)

pub stepping-added : (old new : BoardModel) (job attempt : ℕ) → IsAdded old (Claims job attempt) new → IsNextAttempt (job_of (now old) job) attempt → IsIdle (now old) → IsStepping (now new) job attempt
stepping-added old new job attempt a n i =
    subst (λ (w : World Query). IsStepping w job attempt) (sym (now-claimed old new job attempt a)) (stepping-claim (now old) job attempt n i)

pub idle-ended : (old new : BoardModel) (job attempt : ℕ) (outcome : Outcome) → IsAdded old (StepEnds job attempt outcome) new → IsStepping (now old) job attempt → IsIdle (now new)
idle-ended old new job attempt outcome e s =
    subst IsIdle (sym (now-grown old new (StepEnds job attempt outcome ∷ []) (grown-added old (StepEnds job attempt outcome) new e)))
    (idle-end (now old) job attempt outcome s)

line-steps : (w : World Query) (later : List (Turn Query)) → AllByRecursion IsOfStep later → (fold (step cube) w later).line ≡ w.line
line-steps w [] h = refl
line-steps w (Claims job attempt ∷ later) h = line-steps (step cube w (Claims job attempt)) later h.1 ∙ line-claim w job attempt
line-steps w (StepEnds job attempt outcome ∷ later) h = line-steps (step cube w (StepEnds job attempt outcome)) later h.1 ∙ line-end w job attempt outcome
line-steps w (Takes line command ∷ later) h = absurd h.0
line-steps w (QueryTakes line ∷ later) h = absurd h.0
line-steps w (QueryEnds line out ∷ later) h = absurd h.0

pub sound-worked : (inputs : Inputs) (old new : BoardModel) (taken : ℕ) → IsWorked old new → IsIdle (now new) → IsSound inputs old taken → IsSound inputs new taken
sound-worked inputs old new taken w i s =
    let line : (now new).line ≡ (now old).line = ap (λ (x : World Query). x.line) (now-grown old new w.later w.grown) ∙ line-steps (now old) w.later w.steps in
    record {
      within = s.within;
      workers = w.grown.workers ∙ s.workers;
      ready = s.ready;
      named = worked-named inputs old new w s.named;
      in_order = worked-lines old new w ∙ s.in_order;
      later = subst (λ (n : ℕ). RisesFrom n (drop taken inputs.script)) (sym line) s.later;
      idle = i;
      all_told = subst AreTold (sym (worked-entries inputs.script old new w)) s.all_told;
      no_stops = no-stops-worked old new w s.no_stops;
    }

-- an empty queue has no first job
pub no_first : (queue : List ℕ) → slice_get queue 0 ≡ None → queue ≡ []
no_first [] e = refl
no_first (job ∷ queue) e = cc

-- ---- what was claimed

-- the job of a claim is there
job_there : (found : Option Submitted) (attempt : ℕ) → IsNextAttempt found attempt → (s : Submitted) × (found ≡ Some s)
job_there None attempt h = absurd h
job_there (Some s) attempt h = (s, refl)

module _ (honest : Type 0) (old mid new : BoardModel) (same : IsSame old mid) (idle : IsIdle (now old)) where
  claimed-work : (work : Work) → IsAdded mid (Claims work.job work.attempt) new → IsNextAttempt (job_of (now mid) work.job) work.attempt
      → ((s : Submitted) → job_of (now mid) work.job ≡ Some s → honest → work.task.items ≡ next_task cube (now mid) s)
      → IsTask work.task.items → IsClaimed honest old work new
  claimed-work work added attempt task is_task =
      let found = job_there (job_of (now mid) work.job) work.attempt attempt in
      record {
        added = added-same old mid (Claims work.job work.attempt) new same added;
        job = found.0;
        there = subst (λ (w : World Query). job_of w work.job ≡ Some found.0) (now-same old mid same) found.1;
        task = λ h. subst (λ (w : World Query). work.task.items ≡ next_task cube w found.0) (now-same old mid same) (task found.0 found.1 h);
        work_of = record {
          stepping = stepping-added mid new work.job work.attempt added attempt (subst IsIdle (sym (now-same old mid same)) idle);
          task = λ h. task-claimed (now mid) (now new) work.job work.attempt work.task.items (now-claimed mid new work.job work.attempt added) attempt (λ s e. task s e h);
          is_task = is_task;
        };
      }

  claimed-found : (found : Option Work) → IfSome found (λ work. IsAdded mid (Claims work.job work.attempt) new)
      → IfSome found (λ work. IsNextAttempt (job_of (now mid) work.job) work.attempt)
      → IfSome found (λ work. (s : Submitted) → job_of (now mid) work.job ≡ Some s → honest → work.task.items ≡ next_task cube (now mid) s)
      → IfSome found (λ work. IsTask work.task.items)
      → IfSome found (λ work. IsClaimed honest old work new)
  claimed-found None added attempt task is_task = tt
  claimed-found (Some work) added attempt task is_task = claimed-work work added attempt task is_task

  pub claimed-step : {E : Type 0} (claimed : Result (Option Work) E) → IfOk claimed (λ found. IfSome found (λ work. IsAdded mid (Claims work.job work.attempt) new))
      → IfOk claimed (λ found. IfSome found (λ work. IsNextAttempt (job_of (now mid) work.job) work.attempt))
      → IfOk claimed (λ found. IfSome found (λ work. (s : Submitted) → job_of (now mid) work.job ≡ Some s → honest → work.task.items ≡ next_task cube (now mid) s))
      → IfOk claimed (λ found. IfSome found (λ work. IsTask work.task.items))
      → IfOk claimed (λ found. IfSome found (λ work. IsClaimed honest old work new))
  claimed-step (Ok found) added attempt task is_task = claimed-found found added attempt task is_task
  claimed-step (Err e) added attempt task is_task = tt
