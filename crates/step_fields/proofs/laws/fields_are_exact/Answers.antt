use Rattle.step_fields.proofs.Exact.{exact_val, exact_row, exact_rows, exact_day, exact_range}
use Rattle.step_fields.proofs.laws.fields_are_exact.Goals as goal

pub returns : goal.returns
returns c = record { value = exact_val; row = exact_row; rows = exact_rows; day = exact_day; range = exact_range }
