use Rattle.std.proofs.Common.{refl}
use Rattle.std.specs.Fmt.{digits}
use Rattle.csv.specs.Writing.{escaped, fields_text, is_blank}
use Rattle.script_text.proofs.examples.worked_refusals.Goals as goal

pub returns-clause-not_loaded : goal.returns-clause-not_loaded
unfolding escaped fields_text is_blank digits
returns-clause-not_loaded c = refl

pub returns-clause-full : goal.returns-clause-full
unfolding escaped fields_text is_blank digits
returns-clause-full c = refl

pub returns-clause-overlaps_job : goal.returns-clause-overlaps_job
unfolding escaped fields_text is_blank digits
returns-clause-overlaps_job c = refl

pub returns-clause-no_segment : goal.returns-clause-no_segment
unfolding escaped fields_text is_blank digits
returns-clause-no_segment c = refl

pub returns-clause-off_bounds : goal.returns-clause-off_bounds
unfolding escaped fields_text is_blank digits
returns-clause-off_bounds c = refl

pub returns-clause-one_segment : goal.returns-clause-one_segment
unfolding escaped fields_text is_blank digits
returns-clause-one_segment c = refl

pub returns-clause-lookups : goal.returns-clause-lookups
unfolding escaped fields_text is_blank digits
returns-clause-lookups c = refl

pub returns-clause-no_job : goal.returns-clause-no_job
unfolding escaped fields_text is_blank digits
returns-clause-no_job c = refl

pub returns-clause-ended : goal.returns-clause-ended
unfolding escaped fields_text is_blank digits
returns-clause-ended c = refl

pub returns-clause-wrong_state : goal.returns-clause-wrong_state
unfolding escaped fields_text is_blank digits
returns-clause-wrong_state c = refl

pub returns-clause-no_table : goal.returns-clause-no_table
unfolding escaped fields_text is_blank digits
returns-clause-no_table c = refl

pub returns-clause-sql : goal.returns-clause-sql
unfolding escaped fields_text is_blank digits
returns-clause-sql c = refl

pub returns-clause-bind : goal.returns-clause-bind
unfolding escaped fields_text is_blank digits
returns-clause-bind c = refl
