-- The program's command line as the parser of command lines sees it, and what it finds in words.
use Rattle.std.specs.Prelude.{◌≡◌, List, [], ◌∷◌, Option, Some, codes, true, false, option_and_then}
use Rattle.clap.specs.Words.{App, Row, Rule, Text, app_of, first_of, new_app, new_rule, subcommand_rows_of, with_rule, with_subcommand}
use Rattle.clap.specs.declared.builder.command.Command.{Command}
use Rattle.clap.specs.declared.builder.command.Command.TheViews.{out-Command}
use Rattle.clap.specs.declared.parser.matches.ArgMatches.{ArgMatches}

-- a subcommand with one argument at each place
abbrev pub with_ids : App → List Text → App
with_ids app [] = app
with_ids app (id ∷ ids) = with_ids (with_rule app (new_rule id)) ids

-- the option for the number of workers
abbrev pub workers_rule : Rule
workers_rule = record (new_rule (codes "workers")) { long = Some (codes "workers") }

abbrev pub run_app : App
run_app = with_rule (with_ids (new_app (codes "run")) (codes "path" ∷ [])) workers_rule

abbrev pub demo_app : App
demo_app = with_ids (new_app (codes "demo")) (codes "number" ∷ codes "rows" ∷ [])

abbrev pub fold_app : App
fold_app = with_ids (new_app (codes "fold")) (codes "path" ∷ [])

abbrev pub cuboids_app : App
cuboids_app = with_ids (new_app (codes "cuboids")) (codes "path" ∷ [])

abbrev pub step_app : App
step_app = with_ids (new_app (codes "step")) (codes "task" ∷ codes "product" ∷ codes "stop" ∷ [])

abbrev pub without_name : App → App
without_name app = record app { top = record app.top { no_binary_name = true } }

-- the command line of the program, so far with the subcommands that run jobs
abbrev pub jobs_app : App
jobs_app = with_subcommand (with_subcommand (without_name (new_app (codes "cubes"))) run_app.top) demo_app.top

-- .. and with those that print what a file says
abbrev pub reports_app : App
reports_app = with_subcommand (with_subcommand jobs_app fold_app.top) cuboids_app.top

-- .. with all of them
abbrev pub cubes : App
cubes = with_subcommand reports_app step_app.top

-- the built command is this one, and it has no argument that counts for all subcommands
abbrev pub IsApp : Command → App → Type 0
IsApp c app = (app_of c ≡ app) × ((out-Command c).has_globals ≡ false)

-- the value of an argument among those of a subcommand
abbrev pub value_in : Option (Text × List Row) → Text → Option Text
value_in found id = option_and_then (λ p. first_of id p.1) found

-- .. in matches
abbrev pub value_of : ArgMatches → Text → Option Text
value_of m id = value_in (subcommand_rows_of m) id
