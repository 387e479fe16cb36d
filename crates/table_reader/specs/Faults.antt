-- Faults of whole records.
use Rattle.std.specs.Prelude.{ℕ, None}
use Rattle.table_reader.specs.declared.fault.TableFault.{TableFault}
use Rattle.table_reader.specs.declared.fault.TableKind.{TableKind}

-- the fault of a whole record, of no one column
abbrev pub fault_in : ℕ → TableKind → TableFault
fault_in row_number k = record { row = row_number; column = None; kind = k }
