use Rattle.std.proofs.Common.{◌∙◌, sym}
use Rattle.script_files.proofs.Sessions.{names_are, number_is}
use Rattle.script_files.proofs.session.Sessions.number.Goals as goal

pub returns-clause-number : goal.returns-clause-number
returns-clause-number c =
    number_is c.in_ok-name.name c.self.inside.names.keys c.args.self.now c.args.name.now _ _ (c.in_ok-name.ensures.items ∙ c.bytes.ensures) (sym c.self.view_is) c.in_ok-number.ensures.index (c.in-Ok.ensures.1)

pub returns-clause-names : goal.returns-clause-names
returns-clause-names c =
    names_are c.in_ok-name.name c.self.inside.names.keys c.insert_full.new.self.keys c.args.self.now c.args.name.now (c.in_ok-name.ensures.items ∙ c.bytes.ensures) (sym c.self.view_is) c.in_ok-number.ensures.keys
