-- A run over its inputs, from the board that it leaves.
use Rattle.std.proofs.Common.{◌≡◌, ◌≢◌, ℕ, Bool, true, ◌&&◌, ◌==◌, Option, List, [], ◌++◌, length, map, take, sym, ap, ◌∙◌, subst, inl, inr, arith}
use Rattle.std.specs.Io.KnownBytes.{append_known}
use Rattle.std.proofs.lemmas.List.{length-map, length-take-le}
use Rattle.job_board.specs.Ledger.{cube}
use Rattle.job_board.specs.BoardModel.{BoardModel, now, turns}
use Rattle.outside.specs.Written.{AppendsPart}
use Rattle.plain_answer.specs.declared.ask.Ask.{Ask as Query}
use Rattle.range_list.specs.Ranges.{IsApart}
use Rattle.run_history.specs.Commands.{Turn, event_of}
use Rattle.run_history.specs.Histories as histories
use Rattle.run_history.specs.Histories.{Along, is_settled}
use Rattle.run_history.specs.Invariants.{HasSteps, ranges_of}
use Rattle.run_history.specs.Sets.{ReadySet}
use Rattle.run_history.specs.Steps.{world}
use Rattle.run_history.specs.World.{World, set_at, start}
use Rattle.run_history.specs.declared.event.Event.{Event}
use Rattle.run_history.proofs.Sound.{empty_starts, sound_world}
use Rattle.run_transcript.specs.Entries.{Entry, entries_along, tally_of, told_text}
use Rattle.run_transcript.specs.Runs.{IsFresh, IsLegal, IsWhole, is_whole, lines_taken, turns_of, world_of}
use Rattle.run_transcript.specs.Served.{Inputs}
use Rattle.run_transcript.specs.Transcripts.{end_if, entries_of, transcript}
use Rattle.script_text.specs.Blocks.{end_text}
use Rattle.script_text.specs.declared.verb.Line.{Line}
use Rattle.coordinator.specs.Coordinator.{HasWritten, HasWrittenPart, IsFront, IsSound, entries_in, is_done}
use Rattle.coordinator.specs.Runs.{AreTrusted, IsOverNone, IsRunOver}
use Rattle.coordinator.specs.Served.{served}
use Rattle.coordinator.proofs.Written.{all_then, part_more, part_then}

has_steps : HasSteps cube
has_steps kind = omega arith

-- ---- the events of a board, over its inputs

module _ (inputs : Inputs) (board : BoardModel) (f : IsFront inputs board) where
  pub world-is : world_of served inputs (map event_of (turns board)) ≡ now board
  world-is =
      ap (λ (set : ReadySet). world cube inputs.workers set (turns_of served inputs (map event_of (turns board)))) f.ready
      ∙ (ap (world cube inputs.workers []) f.named ∙ ap (λ (n : ℕ). world cube n [] (turns board)) (sym f.workers))

  pub entries-are : entries_of served inputs (map event_of (turns board)) ≡ entries_in inputs.script board
  entries-are =
      ap (λ (set : ReadySet). entries_along served inputs.script (start inputs.workers (length cube.tables) set) [] (turns_of served inputs (map event_of (turns board)))) f.ready
      ∙ (ap (entries_along served inputs.script (start inputs.workers (length cube.tables) []) []) f.named
      ∙ ap (λ (n : ℕ). entries_along served inputs.script (start n (length cube.tables) []) [] (turns board)) (sym f.workers))

  pub legal-is : histories.IsLegal cube board.workers [] (turns board) → IsLegal served inputs (map event_of (turns board))
  legal-is h = record {
    later = f.later;
    in_order = f.in_order;
    allowed =
        subst (λ (set : ReadySet). histories.IsLegal cube inputs.workers set (turns_of served inputs (map event_of (turns board)))) (sym f.ready)
        (subst (λ (ts : List (Turn Query)). histories.IsLegal cube inputs.workers [] ts) (sym f.named)
        (subst (λ (n : ℕ). histories.IsLegal cube n [] (turns board)) f.workers h));
  }

  pub fresh-is : histories.HasFreshAnswers cube board.workers [] (turns board) → IsFresh served inputs (map event_of (turns board))
  fresh-is h =
      subst (λ (set : ReadySet). histories.HasFreshAnswers cube inputs.workers set (turns_of served inputs (map event_of (turns board)))) (sym f.ready)
      (subst (λ (ts : List (Turn Query)). histories.HasFreshAnswers cube inputs.workers [] ts) (sym f.named)
      (subst (λ (n : ℕ). histories.HasFreshAnswers cube n [] (turns board)) f.workers h))

  pub apart-is : histories.IsLegal cube board.workers [] (turns board) → (version : ℕ) → IsApart (ranges_of (set_at (world_of served inputs (map event_of (turns board))) version))
  apart-is h version =
      let sound = sound_world cube has_steps board.workers [] (turns board) empty_starts h in
      subst (λ (w : World Query). IsApart (ranges_of (set_at w version))) (sym world-is) (sound.set_apart version)

  pub trusted-is : (honest : Type 0) → AreTrusted honest inputs.workers (turns_of served inputs (map event_of (turns board))) → AreTrusted honest board.workers (turns board)
  trusted-is honest (inl h) = inl h
  trusted-is honest (inr h) = inr (
      subst (λ (n : ℕ). Along cube IsOverNone (start n (length cube.tables) []) (turns board)) (sym f.workers)
      (subst (λ (ts : List (Turn Query)). Along cube IsOverNone (start inputs.workers (length cube.tables) []) ts) f.named h)
      )

  -- the transcript is what is told, and the end line where the history is whole
  pub transcript-is : transcript served inputs (map event_of (turns board))
      ≡ told_text (entries_in inputs.script board) ++ end_if served inputs (is_whole served inputs (map event_of (turns board))) (now board)
  transcript-is =
      ap (λ (entries : List Entry). told_text entries ++ end_if served inputs (is_whole served inputs (map event_of (turns board))) (world_of served inputs (map event_of (turns board)))) entries-are
      ∙ ap (λ (w : World Query). told_text (entries_in inputs.script board) ++ end_if served inputs (is_whole served inputs (map event_of (turns board))) w) world-is

  -- a part of what is told is a part of the transcript
  pub part-of-transcript : (honest : Type 0) (before written : Option (List ℕ)) → HasWrittenPart honest inputs.script board before written → AreTrusted honest board.workers (turns board)
      → AppendsPart before written (transcript served inputs (map event_of (turns board)))
  part-of-transcript honest before written h trusted =
      part_more before written (told_text (entries_in inputs.script board)) (end_if served inputs (is_whole served inputs (map event_of (turns board))) (now board))
      (transcript served inputs (map event_of (turns board))) (h trusted) transcript-is

  -- ---- where all commands that were taken are told

  module _ (taken : ℕ) (s : IsSound inputs board taken) where
    lines-count : length (lines_taken (map event_of (turns board))) ≡ taken
    lines-count = ap length s.in_order ∙ (length-map (take taken inputs.script) (λ (line : Line). line.number) ∙ length-take-le taken inputs.script s.within)

    pub done-is : is_whole served inputs (map event_of (turns board)) ≡ is_done inputs.script taken (now board)
    done-is =
        ap (λ (n : ℕ). (n == length inputs.script) && is_settled (world_of served inputs (map event_of (turns board)))) lines-count
        ∙ ap (λ (w : World Query). (taken == length inputs.script) && is_settled w) world-is

    -- nothing is left to do
    module _ (d : is_done inputs.script taken (now board) ≡ true) where
      transcript-done : transcript served inputs (map event_of (turns board))
          ≡ told_text (entries_in inputs.script board) ++ end_text (tally_of (now board).jobs) (length (now board).ready)
      transcript-done = transcript-is ∙ ap (λ (b : Bool). told_text (entries_in inputs.script board) ++ end_if served inputs b (now board)) (done-is ∙ d)

      -- and then the end line was written, or a part of it
      pub whole-transcript : (honest : Type 0) (before mid written : Option (List ℕ)) → HasWritten honest inputs.script board before mid
          → written ≡ append_known mid (end_text (tally_of (now board).jobs) (length (now board).ready)) → AreTrusted honest board.workers (turns board)
          → written ≡ append_known before (transcript served inputs (map event_of (turns board)))
      whole-transcript honest before mid written h w trusted =
          all_then before mid written (told_text (entries_in inputs.script board)) (end_text (tally_of (now board).jobs) (length (now board).ready))
          (transcript served inputs (map event_of (turns board))) (h trusted) w transcript-done

      pub part-transcript : (honest : Type 0) (before mid written : Option (List ℕ)) → HasWritten honest inputs.script board before mid
          → AppendsPart mid written (end_text (tally_of (now board).jobs) (length (now board).ready)) → AreTrusted honest board.workers (turns board)
          → AppendsPart before written (transcript served inputs (map event_of (turns board)))
      part-transcript honest before mid written h w trusted =
          part_then before mid written (told_text (entries_in inputs.script board)) (end_text (tally_of (now board).jobs) (length (now board).ready))
          (transcript served inputs (map event_of (turns board))) (h trusted) w transcript-done

    pub whole-is : histories.IsLegal cube board.workers [] (turns board) → is_done inputs.script taken (now board) ≡ true → IsWhole served inputs (map event_of (turns board))
    whole-is h d = record { legal = legal-is h; whole = done-is ∙ d }

-- ---- the whole run

-- the run of a board of which all this is known
pub run-over : (honest : Type 0) (inputs : Inputs) (board : BoardModel) (taken status : ℕ) (history : List Event) (before written : Option (List ℕ)) → IsFront inputs board
    → history ≡ map event_of (turns board) → histories.IsLegal cube board.workers [] (turns board) → histories.HasFreshAnswers cube board.workers [] (turns board)
    → (status ≡ 0 → IsSound inputs board taken) → (status ≡ 0 → is_done inputs.script taken (now board) ≡ true)
    → (status ≡ 0 → AreTrusted honest board.workers (turns board) → written ≡ append_known before (transcript served inputs (map event_of (turns board))))
    → (status ≢ 0 → AreTrusted honest board.workers (turns board) → AppendsPart before written (transcript served inputs (map event_of (turns board))))
    → IsRunOver honest inputs history status before written
run-over honest inputs board taken status history before written f e legal fresh sound done all part =
    subst (λ (h : List Event). IsRunOver honest inputs h status before written) (sym e) (record {
      legal = legal-is inputs board f legal;
      fresh = fresh-is inputs board f fresh;
      apart = apart-is inputs board f legal;
      whole = λ z. whole-is inputs board f taken (sound z) legal (done z);
      written = λ z t. all z (trusted-is inputs board f honest t);
      part = λ z t. part z (trusted-is inputs board f honest t);
    })
