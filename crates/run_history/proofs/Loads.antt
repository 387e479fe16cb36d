-- Where the tables of a job's snapshot come from.
use Rattle.std.proofs.Common.{◌≡◌, ℕ, zero, suc, ◌+◌, ◌-◌, ◌⊎◌, Bool, true, false, cond, ◌==◌, Option, Some, None, List, [], ◌∷◌, ◌++◌, length, map, set, slice_get, refl, sym, ap, ◌∙◌, subst, inl, inr, arith, length-set, unwrap_or}
use Rattle.std.specs.Prelude.{Contains, find, is_some, ⊤}
use Rattle.std.proofs.lemmas.Bool.{eq-eqb}
use Rattle.std.proofs.lemmas.List.{length-map}
use Rattle.job_machine.specs.Job.{Act, new_job, next}
use Rattle.job_machine.specs.declared.state.Ended.{Ended}
use Rattle.job_machine.specs.declared.state.Ended.TheVariants as ended
use Rattle.job_machine.specs.declared.state.JobKind.{JobKind}
use Rattle.job_machine.specs.declared.state.JobKind.TheVariants.{Build, Refresh, Merge}
use Rattle.range_list.specs.Ranges.{Interval}
use Rattle.run_history.specs.Commands.{Command, Turn}
use Rattle.run_history.specs.Commands.Command.{Load, Submit, Drop, Steer, Ask, Note}
use Rattle.run_history.specs.Commands.Turn.{Takes, Claims, StepEnds, QueryTakes, QueryEnds}
use Rattle.run_history.specs.Cubes.{CubeSemantics, Rows}
use Rattle.run_history.specs.Histories.{Along}
use Rattle.run_history.specs.Sets.{ReadySet}
use Rattle.run_history.specs.Snapshots.{AreFromLoads, AreLoaded, loads_in, loads_of, tables_of}
use Rattle.run_history.specs.Steps.{accepted, by_verdict, claimed, end_by, ended_as, query_ended, query_taken, step, step_ended, steered, steps_of, with_job, without_claim, world}
use Rattle.run_history.specs.Verdicts.{act_of, first_not_loaded, first_of, no_such_segment, not_loaded, overlaps_job, overlaps_segment, submit_refusals, too_many_segments, verdict}
use Rattle.run_history.specs.World.{Asked, Submitted, Waiting, World, in_force, job_at, job_of, nothing_loaded, reads_tables, start}
use Rattle.run_history.specs.declared.command.Control.{Control}
use Rattle.run_history.specs.declared.event.Outcome.{Outcome}
use Rattle.run_history.specs.declared.event.QueryOut.{QueryOut}
use Rattle.run_history.specs.declared.refused.Refused.{Refused}
use Rattle.run_history.specs.declared.refused.Refused.TheVariants as refused
use Rattle.run_history.proofs.Lists.{Every, every_append, every_map, map_none, to_all}
use Rattle.run_history.proofs.Laws.{reached_along}
use Rattle.run_history.proofs.Jobs.{same_job}
use Rattle.run_history.proofs.InPlace.{first_none}

-- ---- lists

some_same : {X : Type 0} (a b : X) → Some a ≡ Some b → a ≡ b
some_same a b h = cc

set_cases : {X : Type 0} (xs : List X) (i : ℕ) (y : X) (k : ℕ) (z : X) → slice_get (set xs i y) k ≡ Some z → ((k ≡ i) × (y ≡ z)) ⊎ (slice_get xs k ≡ Some z)
set_cases [] i y k z e = inr e
set_cases (x ∷ xs) zero y zero z e = inl (refl, some_same y z e)
set_cases (x ∷ xs) zero y (suc k) z e = inr e
set_cases (x ∷ xs) (suc i) y zero z e = inr e
set_cases (x ∷ xs) (suc i) y (suc k) z e =
    elim (set_cases xs i y k z e) [
      | inl a ↦ inl (ap suc a.0, a.1)
      | inr b ↦ inr b
    ]

every_set : {X : Type 0} (P : X → Type 0) (xs : List X) (i : ℕ) (s t : X) → slice_get xs i ≡ Some s → (P s → P t) → Every P xs → Every P (set xs i t)
every_set P [] i s t e f h = tt
every_set P (x ∷ xs) zero s t e f h = (f (subst P (some_same x s e) h.0), h.1)
every_set P (x ∷ xs) (suc i) s t e f h = (h.0, every_set P xs i s t e f h.1)

every_with : (P : Submitted → Type 0) (jobs : List Submitted) (n : ℕ) (s t : Submitted) → job_at jobs n ≡ Some s → (P s → P t) → Every P jobs → Every P (with_job jobs n t)
every_with P jobs zero s t e f h = cc
every_with P jobs (suc place) s t e f h =
    let there : place ≡ suc place - 1 = omega arith in
    subst (λ (k : ℕ). Every P (set jobs k t)) there (every_set P jobs place s t e f h)

every_of : (P : Submitted → Type 0) (jobs : List Submitted) (n : ℕ) (s : Submitted) → job_at jobs n ≡ Some s → Every P jobs → P s
every_of P jobs zero s e h = cc
every_of P [] (suc place) s e h = cc
every_of P (x ∷ jobs) (suc zero) s e h = subst P (some_same x s e) h.0
every_of P (x ∷ jobs) (suc (suc place)) s e h = every_of P jobs (suc place) s e h.1

contains_later : {X : Type 0} (ys xs : List X) (x : X) → Contains xs x → Contains (ys ++ xs) x
contains_later [] xs x h = h
contains_later (y ∷ ys) xs x h = let rest = contains_later ys xs x h in (suc rest.0, omega (arith, rest.1), rest.2)

-- ---- what was loaded

abbrev IsLoaded : Option Rows → Type 0
IsLoaded o = is_some o ≡ true

loaded_set : (loaded : List (Option Rows)) (table : ℕ) (rows : Rows) → Every IsLoaded loaded → Every IsLoaded (set loaded table (Some rows))
loaded_set [] table rows h = tt
loaded_set (o ∷ loaded) zero rows h = (refl, h.1)
loaded_set (o ∷ loaded) (suc table) rows h = (h.0, loaded_set loaded table rows h.1)

all_loaded : (names : List (List ℕ)) (loaded : List (Option Rows)) → length loaded ≡ length names → first_not_loaded names loaded ≡ None → Every IsLoaded loaded
all_loaded [] [] same h = tt
all_loaded [] (o ∷ loaded) same h = absurd (omega arith)
all_loaded (name ∷ names) [] same h = tt
all_loaded (name ∷ names) (None ∷ loaded) same h = cc
all_loaded (name ∷ names) (Some rows ∷ loaded) same h = (refl, all_loaded names loaded (omega arith) h)

force_at : (loaded : List (Option Rows)) (place : ℕ) (rows : Rows) → Every IsLoaded loaded → slice_get (map (λ (o : Option Rows). unwrap_or o []) loaded) place ≡ Some rows → slice_get loaded place ≡ Some (Some rows)
force_at [] place rows h e = cc
force_at (None ∷ loaded) place rows h e = let never : false ≡ true = h.0 in cc
force_at (Some x ∷ loaded) zero rows h e = ap (λ (o : Option Rows). Some o) e
force_at (Some x ∷ loaded) (suc place) rows h e = force_at loaded place rows h.1 e

length_nothing : (tables : ℕ) → length (nothing_loaded tables) ≡ tables
length_nothing zero = refl
length_nothing (suc tables) = omega (arith, length_nothing tables)

nothing_there : (tables place : ℕ) (rows : Rows) → slice_get (nothing_loaded tables) place ≡ Some (Some rows) → ⊥
nothing_there zero place rows e = cc
nothing_there (suc tables) zero rows e = cc
nothing_there (suc tables) (suc place) rows e = nothing_there tables place rows e

-- ---- what jobs read

-- so many tables, each with P at its place
record Reads (P : ℕ → Rows → Type 0) (count : ℕ) (tables : List Rows) : Type 0 where
  all : length tables ≡ count
  each : (place : ℕ) (rows : Rows) → slice_get tables place ≡ Some rows → P place rows

-- a job that reads tables came when all were loaded, and its tables are as they have to be
abbrev HasRead : (ℕ → Rows → Type 0) → ℕ → List (Option Rows) → Submitted → Type 0
HasRead P count loaded s = reads_tables s.job.kind ≡ true → Every IsLoaded loaded × ((first : List Rows) → s.tables ≡ Some first → Reads P count first)

read_moved : (P : ℕ → Rows → Type 0) (count : ℕ) (loaded : List (Option Rows)) (act : Act) (s : Submitted) → HasRead P count loaded s → HasRead P count loaded (record s { job = next act s.job })
read_moved P count loaded act s h reads = h (ap reads_tables (sym (same_job act s.job).kind) ∙ reads)

module _ {Query : Type 0} where
  record HaveRead (P : ℕ → Rows → Type 0) (count : ℕ) (w : World Query) : Type 0 where
    all : length w.loaded ≡ count
    each : (place : ℕ) (rows : Rows) → slice_get w.loaded place ≡ Some (Some rows) → P place rows
    jobs : Every (HasRead P count w.loaded) w.jobs

  abbrev LoadsOf : (ℕ → Rows → Type 0) → Command Query → Type 0
  LoadsOf P (Load table rows) = P table rows
  LoadsOf P (Submit kind range) = ⊤
  LoadsOf P (Drop range) = ⊤
  LoadsOf P (Steer control n) = ⊤
  LoadsOf P (Ask session query) = ⊤
  LoadsOf P (Note noted) = ⊤

  abbrev IsLoadOf : (ℕ → Rows → Type 0) → Turn Query → Type 0
  IsLoadOf P (Takes line command) = LoadsOf P command
  IsLoadOf P (Claims n attempt) = ⊤
  IsLoadOf P (StepEnds n attempt out) = ⊤
  IsLoadOf P (QueryTakes line) = ⊤
  IsLoadOf P (QueryEnds line out) = ⊤

  force_read : (P : ℕ → Rows → Type 0) (count : ℕ) (w : World Query) → HaveRead P count w → Every IsLoaded w.loaded → Reads P count (in_force w)
  force_read P count w h loaded = record {
    all = length-map w.loaded (λ (o : Option Rows). unwrap_or o []) ∙ h.all;
    each = λ place rows e. h.each place rows (force_at w.loaded place rows loaded e);
  }

  tables_read : (P : ℕ → Rows → Type 0) (count : ℕ) (w : World Query) (o : Option (List Rows)) → HaveRead P count w → Every IsLoaded w.loaded → ((first : List Rows) → o ≡ Some first → Reads P count first)
      → Reads P count (unwrap_or o (in_force w))
  tables_read P count w None h loaded kept = force_read P count w h loaded
  tables_read P count w (Some first) h loaded kept = kept first refl

  module _ (P : ℕ → Rows → Type 0) (count : ℕ) where
    read_steered : (w : World Query) (control : Control) (n : ℕ) (o : Option Submitted) → job_at w.jobs n ≡ o → HaveRead P count w → HaveRead P count (steered w control n o)
    read_steered w control n None at h = h
    read_steered w control n (Some s) at h = record {
      all = h.all;
      each = h.each;
      jobs = every_with (HasRead P count w.loaded) w.jobs n s (record s { job = next (act_of control) s.job }) at (read_moved P count w.loaded (act_of control) s) h.jobs;
    }

    read_load : (w : World Query) (table : ℕ) (rows : Rows) → P table rows → HaveRead P count w → HaveRead P count (record w { loaded = set w.loaded table (Some rows) })
    read_load w table rows p h = record {
      all = length-set w.loaded table (Some rows) ∙ h.all;
      each = λ place found e. elim (set_cases w.loaded table (Some rows) place (Some found) e) [
        | inl a ↦ subst (λ (x : Rows). P place x) (some_same rows found a.1) (subst (λ (k : ℕ). P k rows) (sym a.0) p)
        | inr b ↦ h.each place found b
      ];
      jobs = every_map (HasRead P count w.loaded) (HasRead P count (set w.loaded table (Some rows))) w.jobs (λ s k reads. (let was = k reads in (loaded_set w.loaded table rows was.0, was.1))) h.jobs;
    }

    read_claimed : (w : World Query) (n attempt : ℕ) (o : Option Submitted) → job_at w.jobs n ≡ o → HaveRead P count w → HaveRead P count (claimed w n attempt o)
    read_claimed w n attempt None at h = h
    read_claimed w n attempt (Some s) at h = record {
      all = h.all;
      each = h.each;
      jobs = every_with (HasRead P count w.loaded) w.jobs n s (record s { job = next Act.Claim s.job; tables = Some (unwrap_or s.tables (in_force w)) }) at (λ k reads. (
          let was = k (ap reads_tables (sym (same_job Act.Claim s.job).kind) ∙ reads) in
          (was.0, (λ first e. subst (Reads P count) (some_same (unwrap_or s.tables (in_force w)) first e) (tables_read P count w s.tables h was.0 was.1)))
          )) h.jobs;
    }

    read_act : (w v : World Query) (n : ℕ) (s : Submitted) (act : Act) → job_at w.jobs n ≡ Some s → v.loaded ≡ w.loaded → v.jobs ≡ with_job w.jobs n (record s { job = next act s.job }) → HaveRead P count w → HaveRead P count v
    read_act w v n s act at loaded jobs h = record {
      all = ap (λ (l : List (Option Rows)). length l) loaded ∙ h.all;
      each = λ place rows e. h.each place rows (ap (λ (l : List (Option Rows)). slice_get l place) (sym loaded) ∙ e);
      jobs = subst (λ (l : List (Option Rows)). Every (HasRead P count l) v.jobs) (sym loaded) (subst (Every (HasRead P count w.loaded)) (sym jobs)
          (every_with (HasRead P count w.loaded) w.jobs n s (record s { job = next act s.job }) at (read_moved P count w.loaded act s) h.jobs));
    }

    read_ended : (w : World Query) (n : ℕ) (s : Submitted) (how : Ended) → job_at w.jobs n ≡ Some s → HaveRead P count w → HaveRead P count (ended_as how w n s)
    read_ended w n s ended.Stale at h = h
    read_ended w n s ended.Advanced at h = read_act w (ended_as ended.Advanced w n s) n s Act.Advance at refl refl h
    read_ended w n s ended.Finished at h = read_act w (ended_as ended.Finished w n s) n s Act.Finish at refl refl h
    read_ended w n s ended.Failed at h = read_act w (ended_as ended.Failed w n s) n s Act.Fail at refl refl h

    -- a world with the same tables and jobs
    read_same : (w v : World Query) → v.loaded ≡ w.loaded → v.jobs ≡ w.jobs → HaveRead P count w → HaveRead P count v
    read_same w v loaded jobs h = record {
      all = ap (λ (l : List (Option Rows)). length l) loaded ∙ h.all;
      each = λ place rows e. h.each place rows (ap (λ (l : List (Option Rows)). slice_get l place) (sym loaded) ∙ e);
      jobs = subst (λ (l : List (Option Rows)). Every (HasRead P count l) v.jobs) (sym loaded) (subst (Every (HasRead P count w.loaded)) (sym jobs) h.jobs);
    }

    read_step_ended : (w : World Query) (n attempt : ℕ) (out : Outcome) (o : Option Submitted) → job_at w.jobs n ≡ o → HaveRead P count w → HaveRead P count (step_ended w n attempt out o)
    read_step_ended w n attempt out None at h = h
    read_step_ended w n attempt out (Some s) at h = read_ended w n s (end_by out s.job attempt) at h

    read_taken : (w : World Query) (line : ℕ) (o : Option (Waiting Query)) → HaveRead P count w → HaveRead P count (query_taken w line o)
    read_taken w line None h = h
    read_taken w line (Some q) h = read_same w (query_taken w line (Some q)) refl refl h

    read_answered : (w : World Query) (line : ℕ) (out : QueryOut) (o : Option (Asked Query)) → HaveRead P count w → HaveRead P count (query_ended w line out o)
    read_answered w line out None h = h
    read_answered w line out (Some q) h = read_same w (query_ended w line out (Some q)) refl refl h

  -- each turn of a history loads what it has to
  loads_along : {Answer : Type 0} (cube : CubeSemantics Query Answer) (P : ℕ → Rows → Type 0) (w : World Query) (turns : List (Turn Query)) → ((place : ℕ) (rows : Rows) → Contains (loads_of place turns) rows → P place rows)
      → Along cube (λ v turn. IsLoadOf P turn) w turns
  loads_along cube P w [] h = tt
  loads_along cube P w (turn ∷ turns) h =
      (head turn h, loads_along cube P (step cube w turn) turns (λ place rows c. h place rows (contains_later (loads_in place turn) (loads_of place turns) rows c)))
    where
      command_head : (command : Command Query) (line : ℕ) → ((place : ℕ) (rows : Rows) → Contains (loads_of place (Takes line command ∷ turns)) rows → P place rows) → LoadsOf P command
      command_head (Load table rows) line k =
          let own : loads_in {Query = Query} table (Takes line (Load table rows)) ≡ rows ∷ [] = ap (λ (b : Bool). cond b (rows ∷ []) []) (eq-eqb table table refl) in
          k table rows (subst (λ (l : List Rows). Contains (l ++ loads_of table turns) rows) (sym own) (0, omega arith, refl))
      command_head (Submit kind range) line k = tt
      command_head (Drop range) line k = tt
      command_head (Steer control n) line k = tt
      command_head (Ask session query) line k = tt
      command_head (Note noted) line k = tt

      head : (first : Turn Query) → ((place : ℕ) (rows : Rows) → Contains (loads_of place (first ∷ turns)) rows → P place rows) → IsLoadOf P first
      head (Takes line command) k = command_head command line k
      head (Claims n attempt) k = tt
      head (StepEnds n attempt out) k = tt
      head (QueryTakes line) k = tt
      head (QueryEnds line out) k = tt

module _ {Query Answer : Type 0} (cube : CubeSemantics Query Answer) (P : ℕ → Rows → Type 0) where
  -- an accepted BUILD or REFRESH finds each table loaded
  submit_loaded : (w : World Query) (kind : JobKind) (r : Interval) → length w.loaded ≡ length cube.tables → first_of (submit_refusals cube kind r w) ≡ None → reads_tables kind ≡ true → Every IsLoaded w.loaded
  submit_loaded w Build r same h reads =
      all_loaded cube.tables w.loaded same (map_none refused.NotLoaded (first_not_loaded cube.tables w.loaded) (first_none (not_loaded cube w) (too_many_segments cube w ∷ overlaps_segment cube r w ∷ overlaps_job cube r w ∷ []) h).0)
  submit_loaded w Refresh r same h reads =
      all_loaded cube.tables w.loaded same (map_none refused.NotLoaded (first_not_loaded cube.tables w.loaded) (first_none (not_loaded cube w) (no_such_segment cube r w ∷ overlaps_job cube r w ∷ []) h).0)
  submit_loaded w Merge r same h reads = cc

  read_accepted : (w : World Query) (line : ℕ) (command : Command Query) → LoadsOf P command → verdict cube w command ≡ None → HaveRead P (length cube.tables) w
      → HaveRead P (length cube.tables) (accepted (steps_of cube command) (record w { line = line }) command)
  read_accepted w line (Load table rows) p e h = read_load P (length cube.tables) (record w { line = line }) table rows p (read_same P (length cube.tables) w (record w { line = line }) refl refl h)
  read_accepted w line (Submit kind r) p e h = record {
    all = h.all;
    each = h.each;
    jobs = every_append (HasRead P (length cube.tables) w.loaded) w.jobs (record { job = new_job (length w.jobs + 1) kind (cube.steps kind); range = r; tables = None } ∷ []) h.jobs
        ((λ reads. (submit_loaded w kind r h.all e reads, (λ first k. cc))), tt);
  }
  read_accepted w line (Drop r) p e h = read_same P (length cube.tables) w (accepted 0 (record w { line = line }) (Drop r)) refl refl h
  read_accepted w line (Steer control n) p e h = read_steered P (length cube.tables) (record w { line = line }) control n (job_of w n) refl (read_same P (length cube.tables) w (record w { line = line }) refl refl h)
  read_accepted w line (Ask session query) p e h = read_same P (length cube.tables) w (accepted 0 (record w { line = line }) (Ask session query)) refl refl h
  read_accepted w line (Note noted) p e h = read_same P (length cube.tables) w (record w { line = line }) refl refl h

  read_verdict : (w : World Query) (line : ℕ) (command : Command Query) (o : Option Refused) → LoadsOf P command → verdict cube w command ≡ o → HaveRead P (length cube.tables) w
      → HaveRead P (length cube.tables) (by_verdict o (steps_of cube command) (record w { line = line }) command)
  read_verdict w line command (Some r) p e h = read_same P (length cube.tables) w (record w { line = line }) refl refl h
  read_verdict w line command None p e h = read_accepted w line command p e h

  read_step : (w : World Query) (turn : Turn Query) → IsLoadOf P turn → HaveRead P (length cube.tables) w → HaveRead P (length cube.tables) (step cube w turn)
  read_step w (Takes line command) p h = read_verdict w line command (verdict cube w command) p refl h
  read_step w (Claims n attempt) p h = read_claimed P (length cube.tables) w n attempt (job_of w n) refl h
  read_step w (StepEnds n attempt out) p h =
      read_step_ended P (length cube.tables) (record w { steps = without_claim n attempt w.steps }) n attempt out (job_of w n) refl
      (read_same P (length cube.tables) w (record w { steps = without_claim n attempt w.steps }) refl refl h)
  read_step w (QueryTakes line) p h = read_taken P (length cube.tables) w line (find (λ q. q.line == line) w.waiting) h
  read_step w (QueryEnds line out) p h = read_answered P (length cube.tables) w line out (find (λ q. q.waiting.line == line) w.asked) h

  read_world : (workers : ℕ) (initial : ReadySet) (turns : List (Turn Query)) → Along cube (λ w turn. IsLoadOf P turn) (start workers (length cube.tables) initial) turns
      → HaveRead P (length cube.tables) (world cube workers initial turns)
  read_world workers initial turns along =
      reached_along cube (λ w turn. IsLoadOf P turn) (HaveRead P (length cube.tables)) read_step (start workers (length cube.tables) initial) turns
      (record { all = length_nothing (length cube.tables); each = λ place rows e. absurd (nothing_there (length cube.tables) place rows e); jobs = tt }) along

-- ---- over every history

module _ {Query Answer : Type 0} (cube : CubeSemantics Query Answer) (workers : ℕ) (initial : ReadySet) (turns : List (Turn Query)) where
  abbrev IsRead : ℕ → Rows → Type 0
  IsRead place rows = Contains (loads_of place turns) rows

  reading : HaveRead IsRead (length cube.tables) (world cube workers initial turns)
  reading = read_world cube IsRead workers initial turns (loads_along cube IsRead (start workers (length cube.tables) initial) turns (λ place rows c. c))

  was_read : (n : ℕ) (s : Submitted) → job_of (world cube workers initial turns) n ≡ Some s → HasRead IsRead (length cube.tables) (world cube workers initial turns).loaded s
  was_read n s e = every_of (HasRead IsRead (length cube.tables) (world cube workers initial turns).loaded) (world cube workers initial turns).jobs n s e reading.jobs

  pub job_loaded : (n : ℕ) (s : Submitted) → job_of (world cube workers initial turns) n ≡ Some s → reads_tables s.job.kind ≡ true → AreLoaded (world cube workers initial turns)
  job_loaded n s e reads = to_all IsLoaded (world cube workers initial turns).loaded (was_read n s e reads).0

  pub job_tables : (n : ℕ) (s : Submitted) → job_of (world cube workers initial turns) n ≡ Some s → reads_tables s.job.kind ≡ true
      → AreFromLoads turns (length cube.tables) (tables_of (world cube workers initial turns) s)
  job_tables n s e reads =
      let was = was_read n s e reads in
      let r = tables_read IsRead (length cube.tables) (world cube workers initial turns) s.tables reading was.0 was.1 in
      record { all = r.all; each = r.each }
