-- What a stopper was asked where no attempt was found in flight, and what was written where no turn was taken.
use Rattle.std.proofs.Common.{◌≡◌, ◌≢◌, ℕ, true, ◌==◌, Option, Some, None, List, [], ◌∷◌, ◌++◌, length, map, take, refl, sym, ap, ◌∙◌, subst, inl, inr, append-nil, arith}
use Rattle.std.specs.Prelude.{AllPairs, Contains, option_map}
use Rattle.std.proofs.lemmas.Bool.{and_parts, eqb-true}
use Rattle.std.proofs.lemmas.List.{length-map, length-take-le}
use Rattle.std.proofs.lemmas.List.Elements.{All-nil}
use Rattle.job_board.specs.Ledger.{cube, only_query}
use Rattle.job_board.specs.BoardModel.{BoardModel, now, turns}
use Rattle.outside.specs.Rises.{Risen}
use Rattle.outside.specs.declared.stopper.Request.{Request}
use Rattle.outside.proofs.Rises.{Risen-none}
use Rattle.plain_answer.specs.declared.ask.Ask.{Ask}
use Rattle.run_history.specs.Commands.{Turn, event_of}
use Rattle.run_history.specs.Commands.{Command as commands}
use Rattle.run_history.specs.Commands.Turn.{QueryEnds, QueryTakes, Takes}
use Rattle.run_history.specs.Histories.{is_settled}
use Rattle.run_history.specs.World.{start}
use Rattle.run_history.specs.declared.event.Event.{Event}
use Rattle.run_inputs.specs.declared.inputs.LoadedTable.{LoadedTable}
use Rattle.run_transcript.specs.Runs.{lines_taken}
use Rattle.run_transcript.specs.Served.{Inputs, command_of}
use Rattle.script_text.specs.declared.block.Block.{Block}
use Rattle.script_text.specs.declared.verb.Line.{Line}
use Rattle.coordinator.specs.Coordinator.{IsFront, IsGrown, IsSound, asked_turns, is_done}
use Rattle.coordinator.specs.Served.{rows_at, served}
use Rattle.coordinator.specs.Stops.{AsksAmong, stops_of}
use Rattle.flight_laws.specs.Stops.{stops_along}
use Rattle.coordinator.specs.ExecutedLines.{HasExecuted, HasExecutedPart}

-- ---- the stopper

-- the attempts that a board's commands found in flight are those of its events over the inputs
stops_over : (inputs inputs' : Inputs) → inputs ≡ inputs' → (board : BoardModel) (history : List Event) → IsFront inputs board → history ≡ map event_of (turns board) → stops_of served inputs' history ≡ []
stops_over inputs inputs' same board history front e =
    subst (λ (i : Inputs). stops_of served i history ≡ []) same
    (ap (stops_of served inputs) e
    ∙ (ap (stops_along cube (start inputs.workers (length cube.tables) [])) front.named
    ∙ (ap (λ (n : ℕ). stops_along cube (start n (length cube.tables) []) (turns board)) (sym front.workers) ∙ front.no_stops)))

stops_none : (inputs : Inputs) (history : List Event) → history ≡ [] → stops_of served inputs history ≡ []
stops_none inputs history e = ap (stops_of served inputs) e

-- a stopper that was never asked
asks_same : {P : Type 0} (asks : P → ℕ) (old new : P) (stops : List Request) → stops ≡ [] → new ≡ old → Risen asks (old ∷ []) (new ∷ []) (length stops)
asks_same asks old new stops none same =
    subst (λ x. Risen asks (old ∷ []) (x ∷ []) (length stops)) (sym same) (subst (λ (rs : List Request). Risen asks (old ∷ []) (old ∷ []) (length rs)) (sym none) (Risen-none asks (old ∷ [])))

told_same : (told : Option (List Request)) → told ≡ option_map (λ before. before ++ []) told
told_same None = refl
told_same (Some before) = ap Some (sym (append-nil before))

no_pairs : AllPairs (λ (request other : Request). request ≢ other) []
no_pairs i j d less inside = absurd (omega (arith, inside))

requests_same : {P : Type 0} (requests : P → Option (List Request)) (old new : P) (stops : List Request) → new ≡ old → AsksAmong stops (requests old) (requests new)
requests_same requests old new stops same =
    subst (λ x. AsksAmong stops (requests old) (requests x)) (sym same) ([], told_same (requests old), All-nil (Contains stops), no_pairs)

module _ {P : Type 0} (old new : P) (same : new ≡ old) where
  pub asks-over : (asks : P → ℕ) (inputs inputs' : Inputs) → inputs ≡ inputs' → (board : BoardModel) (history : List Event) → IsFront inputs board → history ≡ map event_of (turns board)
      → Risen asks (old ∷ []) (new ∷ []) (length (stops_of served inputs' history))
  asks-over asks inputs inputs' e board history front h = asks_same asks old new (stops_of served inputs' history) (stops_over inputs inputs' e board history front h) same

  pub asks-none : (asks : P → ℕ) (inputs : Inputs) (history : List Event) → history ≡ [] → Risen asks (old ∷ []) (new ∷ []) (length (stops_of served inputs history))
  asks-none asks inputs history e = asks_same asks old new (stops_of served inputs history) (stops_none inputs history e) same

  pub requests-none : (requests : P → Option (List Request)) (stops : List Request) → AsksAmong stops (requests old) (requests new)
  requests-none requests stops = requests_same requests old new stops same

-- ---- where no turn was taken

front_none : {X : Type 0} (xs ys zs : List X) → zs ≡ xs ++ ys → zs ≡ [] → xs ≡ []
front_none [] ys zs e h = refl
front_none (x ∷ xs) ys zs e h = cc

some_turn : {X : Type 0} (xs ys zs : List X) (x : X) → zs ≡ xs ++ x ∷ ys → zs ≡ [] → ⊥
some_turn [] ys zs x e h = cc
some_turn (y ∷ xs) ys zs x e h = cc

pub none-before : (old new : BoardModel) (later : List (Turn Ask)) → IsGrown old later new → turns new ≡ [] → turns old ≡ []
none-before old new later g h = front_none (turns old) later (turns new) g.turns h

pub part-before : (old : BoardModel) (line : Line) (new : BoardModel) → HasExecutedPart old line new → turns new ≡ [] → turns old ≡ []
part-before old line new (inl g) h = none-before old new [] g h
part-before old line new (inr q) h = none-before old new (take q.count (asked_turns line.number q.session)) q.grown h

-- a line that was taken is a turn
pub taken-some : (honest : Type 0) (tables : List LoadedTable) (old : BoardModel) (line : Line) (said : Block) (new : BoardModel) → HasExecuted honest tables old line said new → turns new ≡ [] → ⊥
taken-some honest tables old line said new (inl c) h =
    some_turn (turns old) [] (turns new) (Takes line.number (command_of served (rows_at tables line.number) line.verb)) c.added.turns h
taken-some honest tables old line said new (inr q) h =
    some_turn (turns old) (QueryTakes line.number ∷ QueryEnds line.number q.out ∷ []) (turns new) (Takes line.number (commands.Ask q.session only_query)) q.grown.turns h

no_line : (script : List Line) → script ≢ [] → length script ≡ 0 → ⊥
no_line [] some e = some refl
no_line (line ∷ script) some e = absurd (omega (arith, e))

-- once all commands of a script were taken, there is a turn
pub done-some : (inputs : Inputs) (board : BoardModel) (taken : ℕ) → IsSound inputs board taken → is_done inputs.script taken (now board) ≡ true → inputs.script ≢ [] → turns board ≡ [] → ⊥
done-some inputs board taken s d some none =
    let parts = and_parts (taken == length inputs.script) (is_settled (now board)) d in
    let all : taken ≡ length inputs.script = eqb-true taken (length inputs.script) parts.0 in
    let count : length (lines_taken (map event_of (turns board))) ≡ taken =
    ap length s.in_order ∙ (length-map (take taken inputs.script) (λ (line : Line). line.number) ∙ length-take-le taken inputs.script s.within) in
    let zero_lines : length (lines_taken (map event_of (turns board))) ≡ 0 = ap (λ (ts : List (Turn Ask)). length (lines_taken (map event_of ts))) none in
    no_line inputs.script some (omega (arith, all, count, zero_lines))

pub no-turns : (turns : List (Turn Ask)) (history : List Event) → history ≡ map event_of turns → history ≡ [] → turns ≡ []
no-turns [] history e h = refl
no-turns (turn ∷ turns) history e h = cc
