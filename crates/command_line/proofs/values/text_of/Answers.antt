use Rattle.std.proofs.Common.{sym, ◌∙◌}
use Rattle.clap.proofs.WalkLemmas.{first_value-rows}
use Rattle.clap.specs.Words.{found_of, rows_of, subcommand_rows_of}
use Rattle.command_line.proofs.ProgramFacts.{value_at}
use Rattle.command_line.proofs.values.text_of.Goals as goal

pub returns : goal.returns
returns c =
    let found = found_of c.in_ok-values.values.now in
    c.get_str.ensures ∙ first_value-rows found c.args.id.now ∙ sym (value_at (subcommand_rows_of c.args.matches.now) (rows_of found) c.args.id.now c.in_ok-values.ensures.rows)
