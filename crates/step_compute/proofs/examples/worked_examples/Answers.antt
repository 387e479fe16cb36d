use Rattle.std.proofs.Common.{refl}
use Rattle.jiff_core.specs.Calendar.{day_count, days_of_months, days_of_years}
use Rattle.calendar.specs.Dates.{day_number, day_of, day_with}
use Rattle.agg_group.specs.Mask.{count_of}
use Rattle.agg_group.specs.Sets.{is_subset}
use Rattle.cell_gather.specs.Keys.{dims_of}
use Rattle.cube_desc.specs.Kept.{distinct_places, kept_behind}
use Rattle.step_compute.proofs.examples.worked_examples.Goals as goal

pub returns-clause-flat : goal.returns-clause-flat
unfolding day_of day_with day_number day_count days_of_years days_of_months
returns-clause-flat c = refl

pub returns-clause-dicts : goal.returns-clause-dicts
unfolding distinct_places kept_behind
returns-clause-dicts c = refl

pub returns-clause-base : goal.returns-clause-base
unfolding kept_behind
returns-clause-base c = refl

pub returns-clause-pairs : goal.returns-clause-pairs
unfolding kept_behind dims_of is_subset count_of
returns-clause-pairs c = refl

pub returns-clause-parents : goal.returns-clause-parents
unfolding is_subset count_of
returns-clause-parents c = refl
