-- The board's cube as its scripts and transcripts speak of it, and what a run over it is given.
use Rattle.std.specs.Prelude.{◌==◌, ℕ, List, [], codes, find, option_map, Ok, unwrap_or}
use Rattle.plain_answer.specs.declared.ask.Ask.{Ask}
use Rattle.run_history.specs.Cubes.{Rows}
use Rattle.run_history.specs.declared.refused.Refused.TheVariants.{NotLoaded}
use Rattle.run_inputs.specs.declared.inputs.FixedInputs.{FixedInputs}
use Rattle.run_inputs.specs.declared.inputs.LoadedTable.{LoadedTable}
use Rattle.run_transcript.specs.Served.{Inputs, Served}
use Rattle.job_board.specs.Ledger.{cube, only_query}
use Rattle.script_text.specs.declared.block.Block.TheVariants as block

abbrev pub served : Served Ask
served = record {
  cube = cube;
  shown = block.Cube (codes "FIXED") 2 1 1;
  cuboids = 1;
  query_of = λ text. Ok only_query;
  no_table = NotLoaded;
}

-- the rows of the load at a line
abbrev pub rows_at : List LoadedTable → ℕ → Rows
rows_at tables line = unwrap_or (option_map (λ table. table.rows) (find (λ table. table.line == line) tables)) []

abbrev pub inputs_of : ℕ → FixedInputs → Inputs
inputs_of workers given = record { workers = workers; ready = []; script = given.script; rows = rows_at given.tables }
