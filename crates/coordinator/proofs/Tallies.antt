-- Jobs counted by their states.
use Rattle.std.proofs.Common.{◌≡◌, ℕ, ◌+◌, Bool, cond, List, [], ◌∷◌, map, refl, sym, ap, ◌∙◌}
use Rattle.std.specs.Prelude.{count_by}
use Rattle.std.proofs.lemmas.List.Sums.{sum_by-cons}
use Rattle.run_state.specs.States.{submitted_of}
use Rattle.run_history.specs.World.{Submitted}
use Rattle.run_transcript.specs.Entries.{is_discarded, is_finished, is_in_error, is_stopped, tally_of}
use Rattle.job_board.specs.Ledger.{BoardJob, rows_seen}
use Rattle.script_text.specs.declared.block.Tally.{Tally}

-- a count over images
pub count_map : {X Y : Type 0} (p : Y → Bool) (f : X → Y) (xs : List X) → count_by p (map f xs) ≡ count_by (λ x. p (f x)) xs
count_map p f [] = refl
count_map p f (x ∷ xs) =
    sum_by-cons (λ y. cond (p y) 1 0) (f x) (map f xs)
    ∙ (ap (λ (n : ℕ). cond (p (f x)) 1 0 + n) (count_map p f xs) ∙ sym (sum_by-cons (λ x. cond (p (f x)) 1 0) x xs))

abbrev made : ℕ → ℕ → ℕ → ℕ → Tally
made finished error stopped discarded = record { finished = finished; error = error; stopped = stopped; discarded = discarded }

-- the four counts are the tally
pub tally_is : (jobs : List BoardJob) (finished error stopped discarded : ℕ) → finished ≡ count_by (λ (entry : BoardJob). is_finished entry.job.state) jobs
    → error ≡ count_by (λ (entry : BoardJob). is_in_error entry.job.state) jobs → stopped ≡ count_by (λ (entry : BoardJob). is_stopped entry.job.state) jobs
    → discarded ≡ count_by (λ (entry : BoardJob). is_discarded entry.job.state) jobs
    → made finished error stopped discarded ≡ tally_of (map (submitted_of rows_seen) jobs)
tally_is jobs finished error stopped discarded f e s d =
    ap (λ (n : ℕ). made n error stopped discarded) (f ∙ sym (count_map (λ (s : Submitted). is_finished s.job.state) (submitted_of rows_seen) jobs))
    ∙ (ap (λ (n : ℕ). made (tally_of (map (submitted_of rows_seen) jobs)).finished n stopped discarded) (e ∙ sym (count_map (λ (s : Submitted). is_in_error s.job.state) (submitted_of rows_seen) jobs))
    ∙ (ap (λ (n : ℕ). made (tally_of (map (submitted_of rows_seen) jobs)).finished (tally_of (map (submitted_of rows_seen) jobs)).error n discarded) (s ∙ sym (count_map (λ (s : Submitted). is_stopped s.job.state) (submitted_of rows_seen) jobs))
    ∙ ap (λ (n : ℕ). made (tally_of (map (submitted_of rows_seen) jobs)).finished (tally_of (map (submitted_of rows_seen) jobs)).error (tally_of (map (submitted_of rows_seen) jobs)).stopped n) (d ∙ sym (count_map (λ (s : Submitted). is_discarded s.job.state) (submitted_of rows_seen) jobs))))
