use Rattle.cube_fields.proofs.ExactCells.{exact_table, exact_tables}
use Rattle.cube_fields.proofs.ExactDicts.{exact_dict, exact_dicts}
use Rattle.cube_fields.proofs.laws.fields_are_exact.Goals as goal

pub returns : goal.returns
returns c = record { dict = exact_dict; dicts = exact_dicts; table = exact_table; tables = exact_tables }
