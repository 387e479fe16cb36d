-- What is told of entries, and that it stays told.
use Rattle.std.proofs.Common.{◌≡◌, ℕ, ◌==◌, List, [], ◌∷◌, ◌++◌, Option, Some, None, refl, sym, ap, ◌∙◌, append_assoc, append-nil, eq-eqb}
use Rattle.std.specs.List.{find}
use Rattle.run_history.specs.Commands.{Turn}
use Rattle.run_history.specs.Commands.Turn.{Takes, Claims, StepEnds, QueryTakes, QueryEnds}
use Rattle.run_history.specs.Steps.{step}
use Rattle.run_history.specs.World.{Asked, World}
use Rattle.run_history.specs.declared.event.QueryOut.{QueryOut}
use Rattle.script_text.specs.Blocks.{block_text}
use Rattle.script_text.specs.declared.block.Block.{Block}
use Rattle.script_text.specs.declared.verb.Line.{Line}
use Rattle.run_transcript.specs.Entries.{Entry, answer_block, entries_after, entries_along, entry_of, filled, query_ended, told_text}
use Rattle.run_transcript.specs.Entries.Entry.{Told, Open}
use Rattle.run_transcript.specs.Opens.{AreTold}
use Rattle.run_transcript.specs.Served.{Served, verb_at}

-- a text goes on from another
abbrev pub GoesOn : List ℕ → List ℕ → Type 0
GoesOn new old = (more : List ℕ) × (new ≡ old ++ more)

behind : (text new old : List ℕ) → GoesOn new old → GoesOn (text ++ new) (text ++ old)
behind text new old h = (h.0, ap (λ (t : List ℕ). text ++ t) h.1 ∙ sym (append_assoc text old h.0))

same : (text : List ℕ) → GoesOn text text
same text = ([], sym (append-nil text))

-- an entry more
pub told-push : (entries more : List Entry) → GoesOn (told_text (entries ++ more)) (told_text entries)
told-push [] more = (told_text more, refl)
told-push (Told line block ∷ entries) more = behind (block_text line block) (told_text (entries ++ more)) (told_text entries) (told-push entries more)
told-push (Open line ∷ entries) more = ([], refl)

-- an open place that is filled
pub told-filled : (line : ℕ) (said : Block) (entries : List Entry) → GoesOn (told_text (filled line said entries)) (told_text entries)
told-filled line said [] = ([], refl)
told-filled line said (Told other block ∷ entries) =
    behind (block_text other block) (told_text (filled line said entries)) (told_text entries) (told-filled line said entries)
told-filled line said (Open other ∷ entries) = (told_text (filled line said (Open other ∷ entries)), refl)

pub told-block : (entries : List Entry) (line : ℕ) (block : Block) → AreTold entries → told_text (entries ++ Told line block ∷ []) ≡ told_text entries ++ block_text line block
told-block [] line block h = append-nil (block_text line block)
told-block (Told other first ∷ entries) line block h =
    ap (λ (t : List ℕ). block_text other first ++ t) (told-block entries line block h) ∙ sym (append_assoc (block_text other first) (told_text entries) (block_text line block))
told-block (Open other ∷ entries) line block h = absurd h

pub told-open : (entries back : List Entry) (line : ℕ) → told_text (entries ++ Open line ∷ back) ≡ told_text entries
told-open [] back line = refl
told-open (Told other first ∷ entries) back line = ap (λ (t : List ℕ). block_text other first ++ t) (told-open entries back line)
told-open (Open other ∷ entries) back line = refl

pub told-first_filled : (front back : List Entry) (line : ℕ) (said : Block) → AreTold front
    → told_text (filled line said (front ++ Open line ∷ back)) ≡ told_text front ++ (block_text line said ++ told_text (filled line said back))
told-first_filled [] back line said h = rw (eq-eqb line line refl) refl
told-first_filled (Told other first ∷ front) back line said h =
    ap (λ (t : List ℕ). block_text other first ++ t) (told-first_filled front back line said h)
    ∙ sym (append_assoc (block_text other first) (told_text front) (block_text line said ++ told_text (filled line said back)))
told-first_filled (Open other ∷ front) back line said h = absurd h

module _ {Query : Type 0} (served : Served Query) (script : List Line) where
  pub told-ended : (w : World Query) (entries : List Entry) (line : ℕ) (out : QueryOut) (found : Option (Asked Query))
      → GoesOn (told_text (query_ended served w entries line out found)) (told_text entries)
  told-ended w entries line out None = same (told_text entries)
  told-ended w entries line out (Some q) = told-filled line (answer_block served w q out) entries

  pub told-after : (w : World Query) (entries : List Entry) (turn : Turn Query) → GoesOn (told_text (entries_after served script w entries turn)) (told_text entries)
  told-after w entries (Takes line command) = told-push entries (entry_of served w line (verb_at script line) command ∷ [])
  told-after w entries (Claims job attempt) = same (told_text entries)
  told-after w entries (StepEnds job attempt outcome) = same (told_text entries)
  told-after w entries (QueryTakes line) = same (told_text entries)
  told-after w entries (QueryEnds line out) = told-ended w entries line out (find (λ q. q.waiting.line == line) w.asked)

  further : (new mid old : List ℕ) → GoesOn new mid → GoesOn mid old → GoesOn new old
  further new mid old h k = (k.0 ++ h.0, h.1 ∙ (ap (λ (t : List ℕ). t ++ h.0) k.1 ∙ append_assoc old k.0 h.0))

  pub told-along : (w : World Query) (entries : List Entry) (turns : List (Turn Query)) → GoesOn (told_text (entries_along served script w entries turns)) (told_text entries)
  told-along w entries [] = same (told_text entries)
  told-along w entries (turn ∷ turns) =
      further (told_text (entries_along served script w entries (turn ∷ turns))) (told_text (entries_after served script w entries turn)) (told_text entries)
      (told-along (step served.cube w turn) (entries_after served script w entries turn) turns) (told-after w entries turn)
