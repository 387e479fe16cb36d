use Rattle.command_line.specs.Words.{bytes_of_words}
use Rattle.command_line.proofs.ProgramFacts.{lawful}
use Rattle.command_line.proofs.read.order_of.Goals as goal

pub matches_of-requires : goal.matches_of-requires
matches_of-requires c = lawful c.args.form (bytes_of_words c.args.words.now) c.requires
