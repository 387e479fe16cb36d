-- A small cube, and histories on which the definitions are computed.
use Rattle.std.specs.Prelude.{ℕ, List, [], ◌∷◌, ◌++◌, length, None}
use Rattle.std.specs.Str.{bytes_eq}
use Rattle.std.specs.Prelude.{pos, codes}
use Rattle.cube_val.specs.declared.val.Val.TheVariants.{Int}
use Rattle.job_machine.specs.declared.state.JobKind.TheVariants.{Build, Merge}
use Rattle.range_list.specs.Ranges.{Interval}
use Rattle.run_history.specs.Commands.{Turn}
use Rattle.run_history.specs.Commands.Command.{Load, Submit, Drop, Steer, Ask, Note}
use Rattle.run_history.specs.Commands.Turn.{Takes, Claims, StepEnds, QueryTakes, QueryEnds}
use Rattle.run_history.specs.Cubes.{CubeSemantics, Rows}
use Rattle.run_history.specs.Sets.{ReadySet, rows_of}
use Rattle.run_history.specs.Steps.{world}
use Rattle.run_history.specs.World.{World, set_at}
use Rattle.run_history.specs.declared.command.Control.TheVariants.{Pause, Resume, Discard}
use Rattle.run_history.specs.declared.command.Noted.TheVariants.{AwaitJob, Other}
use Rattle.run_history.specs.declared.event.Outcome.TheVariants.{Done, Killed}
use Rattle.run_history.specs.declared.event.QueryOut.TheVariants.{Answered}

-- one table, two steps a job, and a query that counts rows
abbrev pub counting : CubeSemantics ℕ ℕ
counting = record {
  tables = codes "F" ∷ [];
  steps = λ kind. 2;
  task = λ kind range parts done. length parts ∷ done ∷ [];
  product = λ task. task;
  is_product = λ task bytes. bytes_eq task bytes;
  rows = λ snapshot. rows_in snapshot.tables;
  answer = λ query rows. length rows;
  lookup_that_differs = λ parts. None;
}
  where
    rows_in : List Rows → Rows
    rows_in [] = []
    rows_in (fact ∷ lookups) = fact

abbrev pub january : Interval
january = record { start = 0; end = 31 }

abbrev pub two_rows : Rows
two_rows = (Int (pos 1) ∷ []) ∷ (Int (pos 2) ∷ []) ∷ []

-- a load, a build whose second attempt is killed, a resume, and a query over the segment
abbrev pub killed : List (Turn ℕ)
killed =
    Takes 1 (Note Other) ∷ Takes 2 (Load 0 two_rows) ∷ Takes 3 (Submit Build january)
    ∷ Claims 1 1 ∷ StepEnds 1 1 Done ∷ Claims 1 2 ∷ StepEnds 1 2 Killed ∷ Takes 4 (Note (AwaitJob 1))
    ∷ Takes 5 (Steer Resume 1) ∷ Claims 1 3 ∷ StepEnds 1 3 Done ∷ Takes 6 (Note (AwaitJob 1))
    ∷ Takes 7 (Ask 0 0) ∷ QueryTakes 7 ∷ QueryEnds 7 (Answered 1) ∷ []

abbrev pub after_killed : World ℕ
after_killed = world counting 1 [] killed

-- a job that is discarded while its last step is in flight: the end of that step has no effect
abbrev pub discarded : List (Turn ℕ)
discarded =
    Takes 1 (Load 0 two_rows) ∷ Takes 2 (Submit Build january) ∷ Claims 1 1 ∷ StepEnds 1 1 Done ∷ Claims 1 2
    ∷ Takes 3 (Steer Discard 1) ∷ StepEnds 1 2 Done ∷ []

abbrev pub after_discarded : World ℕ
after_discarded = world counting 2 [] discarded

-- the rows over which the query is answered
abbrev pub rows_seen : Rows
rows_seen = rows_of counting (set_at after_killed 1)

abbrev pub february : Interval
february = record { start = 31; end = 59 }

abbrev pub march : Interval
march = record { start = 59; end = 90 }

abbrev pub both_months : Interval
both_months = record { start = 0; end = 59 }

abbrev pub three_months : Interval
three_months = record { start = 0; end = 90 }

-- two builds side by side
abbrev pub built : List (Turn ℕ)
built =
    Takes 1 (Load 0 two_rows) ∷ Takes 2 (Submit Build february) ∷ Takes 3 (Submit Build january)
    ∷ Claims 1 1 ∷ Claims 2 1 ∷ StepEnds 2 1 Done ∷ StepEnds 1 1 Done ∷ Claims 2 2 ∷ Claims 1 2 ∷ StepEnds 1 2 Done ∷ StepEnds 2 2 Done ∷ []

abbrev pub after_built : World ℕ
after_built = world counting 2 [] built

-- their segments while they are merged
abbrev pub merging : List (Turn ℕ)
merging = built ++ Takes 4 (Submit Merge both_months) ∷ Claims 3 1 ∷ StepEnds 3 1 Done ∷ Claims 3 2 ∷ []

abbrev pub while_merging : World ℕ
while_merging = world counting 2 [] merging

-- and then
abbrev pub merged : List (Turn ℕ)
merged = merging ++ StepEnds 3 2 Done ∷ Takes 5 (Submit Build march) ∷ Takes 6 (Drop both_months) ∷ []

abbrev pub after_merged : World ℕ
after_merged = world counting 2 [] merged

-- a world whose ready segments leave February out
abbrev pub with_gap : World ℕ
with_gap = record after_built { ready = record { range = january; job = 2; origin = [] } ∷ record { range = march; job = 3; origin = [] } ∷ [] }

-- three jobs that wait; the second is paused and resumed, and the first discarded
abbrev pub waiting : List (Turn ℕ)
waiting = Takes 1 (Load 0 two_rows) ∷ Takes 2 (Submit Build january) ∷ Takes 3 (Submit Build february) ∷ Takes 4 (Submit Build march) ∷ []

abbrev pub paused : List (Turn ℕ)
paused = waiting ++ Takes 5 (Steer Pause 2) ∷ []

abbrev pub resumed : List (Turn ℕ)
resumed = paused ++ Takes 6 (Steer Resume 2) ∷ []

abbrev pub less_one : List (Turn ℕ)
less_one = resumed ++ Takes 7 (Steer Discard 1) ∷ []

-- a query that is taken after a swap that its command came before
abbrev pub taken_late : World ℕ
taken_late = world counting 1 [] (
    Takes 1 (Load 0 two_rows) ∷ Takes 2 (Submit Build january) ∷ Claims 1 1 ∷ StepEnds 1 1 Done ∷ Claims 1 2 ∷ Takes 3 (Ask 0 0)
    ∷ StepEnds 1 2 Done ∷ QueryTakes 3 ∷ []
    )

-- a run that starts with January, which is dropped and built
abbrev pub with_january : ReadySet
with_january = record { range = january; job = 7; origin = record { tables = two_rows ∷ []; range = january } ∷ [] } ∷ []

abbrev pub after_dropped : World ℕ
after_dropped = world counting 1 with_january (Takes 1 (Load 0 two_rows) ∷ Takes 2 (Drop january) ∷ Takes 3 (Submit Build january) ∷ [])
