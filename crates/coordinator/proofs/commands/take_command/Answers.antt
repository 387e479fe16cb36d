use Rattle.std.proofs.Common.{Some, map, sym, ap, ◌∙◌, subst}
use Rattle.job_board.specs.BoardModel.{IsAdded, now}
use Rattle.plain_answer.specs.declared.ask.Ask.{Ask as Query}
use Rattle.run_history.specs.Commands.{Command}
use Rattle.run_history.specs.Commands.Turn.{Takes}
use Rattle.run_transcript.specs.Entries.{entry_of}
use Rattle.run_transcript.specs.Served.{command_of}
use Rattle.coordinator.specs.Coordinator.{load_of}
use Rattle.coordinator.specs.Served.{rows_at, served}
use Rattle.coordinator.proofs.Results.{if_ok, on_ok}
use Rattle.coordinator.proofs.Tables.{fits_found, load_is, never_none}
use Rattle.coordinator.proofs.commands.take_command.Goals as goal

pub load-requires-clause-fits : goal.load-requires-clause-fits
load-requires-clause-fits g c = fits_found c.args.line.now.number c.args.loads.now c.in-Some.found.now c.requires.fit (sym c.in-Some.ensures)

pub unreachable-requires : goal.unreachable-requires
unreachable-requires g c =
    let there = rw c.in-Load.is at c.requires.served in
    never_none c.args.line.now.number c.args.loads.now there.1 (sym c.in-None.ensures)

pub returns-in-Some-clause-added : goal.returns-in-Some-clause-added
returns-in-Some-clause-added g c =
    let there = rw c.in-Load.is at c.requires.served in
    let is = load_is c.args.line.now.number c.args.loads.now c.in-Some.found.now c.args.line.now.verb c.in-Load.field-0 c.in-Load.field-1 c.in-Load.is there.0 (sym c.in-Some.ensures) in
    on_ok c.load.result _ _ (subst (λ (command : Command Query). IsAdded c.args.board.now (Takes c.args.line.now.number command) c.load.new.board) (sym is)) c.load.ensures.added

pub returns-in-Some-clause-block : goal.returns-in-Some-clause-block
returns-in-Some-clause-block g c =
    let there = rw c.in-Load.is at c.requires.served in
    let is = load_is c.args.line.now.number c.args.loads.now c.in-Some.found.now c.args.line.now.verb c.in-Load.field-0 c.in-Load.field-1 c.in-Load.is there.0 (sym c.in-Some.ensures) in
    if_ok c.load.result _ _ (λ block h.
    ap (λ (command : Command Query). entry_of served (now c.args.board.now) c.args.line.now.number (Some c.args.line.now.verb) command) is ∙ h c.args.line.now.verb) c.load.ensures.block

pub returns-in-Build-clause-block : goal.returns-in-Build-clause-block
returns-in-Build-clause-block g c =
    let is = ap (command_of served (rows_at (map load_of c.args.loads.now) c.args.line.now.number)) c.in-Build.is in
    if_ok c.build.result _ _ (λ block h.
    ap (λ (command : Command Query). entry_of served (now c.args.board.now) c.args.line.now.number (Some c.args.line.now.verb) command) is ∙ h c.args.line.now.verb) c.build.ensures.block

pub returns-in-AwaitJobs-clause-block : goal.returns-in-AwaitJobs-clause-block
returns-in-AwaitJobs-clause-block g c =
    let is = ap (command_of served (rows_at (map load_of c.args.loads.now) c.args.line.now.number)) c.in-AwaitJobs.is in
    ap (λ (command : Command Query). entry_of served (now c.args.board.now) c.args.line.now.number (Some c.args.line.now.verb) command) is ∙ c.await_jobs.ensures.block c.args.line.now.verb

pub returns-in-AwaitQueries-clause-block : goal.returns-in-AwaitQueries-clause-block
returns-in-AwaitQueries-clause-block g c =
    let is = ap (command_of served (rows_at (map load_of c.args.loads.now) c.args.line.now.number)) c.in-AwaitQueries.is in
    ap (λ (command : Command Query). entry_of served (now c.args.board.now) c.args.line.now.number (Some c.args.line.now.verb) command) is
    ∙ c.await_queries.ensures.block c.args.line.now.verb
