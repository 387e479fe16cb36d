-- Words say one run.
use Rattle.std.proofs.Common.{◌≡◌, ◌≢◌, ◌+◌, ◌-◌, ◌⊎◌, ℕ, List, [], ◌∷◌, Option, Some, None, sym, ap, ◌∙◌, inl, inr, arith}
use Rattle.std.specs.Prelude.{codes}
use Rattle.std.specs.declared.alloc.Global.{Global}
use Rattle.std.specs.declared.string.String.{String}
use Rattle.command_line.specs.Words.{AreLawful, Command, Say, bytes_of_words, cuboids, demo, fold, run, step}
use Rattle.command_line.proofs.ProgramFacts.{found, run_found, workers_found}
use Rattle.cubes_top.specs.Words.{IsNoRun, IsRunOf}

-- ---- the first word

pub first_word : List (List ℕ) → Option (List ℕ)
first_word [] = None
first_word (word ∷ words) = Some word

pub name_of : Command → List ℕ
name_of (run path workers) = codes "run"
name_of (demo number rows) = codes "demo"
name_of (fold path) = codes "fold"
name_of (cuboids path) = codes "cuboids"
name_of (step task product stop) = codes "step"

names : (words : List (List ℕ)) (command : Command) → Say words command → first_word words ≡ Some (name_of command)
unfolding first_word name_of
names words (run path None) s = ap first_word s.0
names words (run path (Some n)) s = elim s.1 [ inl e ↦ ap first_word e | inr e ↦ ap first_word e ]
names words (demo number rows) s = ap first_word s.2
names words (fold path) s = ap first_word s.0
names words (cuboids path) s = ap first_word s.0
names words (step task product stop) s = ap first_word s.0

run_named : (words : List (List ℕ)) (path : List ℕ) → Say words (run path None) ⊎ Say words (run path (Some 1)) → first_word words ≡ Some (codes "run")
unfolding name_of
run_named words path (inl s) = names words (run path None) s
run_named words path (inr s) = names words (run path (Some 1)) s

-- words of another command are no run
pub other-no_run : (words : List (String Global)) (command : Command) → Say (bytes_of_words words) command → (name_of command ≡ codes "run" → ⊥) → IsNoRun words
other-no_run words command s other path r =
    let one = sym (names (bytes_of_words words) command s) ∙ run_named (bytes_of_words words) path r in
    other cc

pub fold-no_run : (words : List (String Global)) (path : List ℕ) → Say (bytes_of_words words) (fold path) → IsNoRun words
unfolding name_of
fold-no_run words path s = other-no_run words (fold path) s (λ e. cc e)

pub cuboids-no_run : (words : List (String Global)) (path : List ℕ) → Say (bytes_of_words words) (cuboids path) → IsNoRun words
unfolding name_of
cuboids-no_run words path s = other-no_run words (cuboids path) s (λ e. cc e)

pub demo-no_run : (words : List (String Global)) (number rows : ℕ) → Say (bytes_of_words words) (demo number rows) → IsNoRun words
unfolding name_of
demo-no_run words number rows s = other-no_run words (demo number rows) s (λ e. cc e)

pub step-no_run : (words : List (String Global)) (task product stop : List ℕ) → Say (bytes_of_words words) (step task product stop) → IsNoRun words
unfolding name_of
step-no_run words task product stop s = other-no_run words (step task product stop) s (λ e. cc e)

-- words that say nothing are no run
pub unlawful-no_run : (words : List (String Global)) → (AreLawful (bytes_of_words words) → ⊥) → IsNoRun words
unlawful-no_run words none path (inl s) = none (run path None, s)
unlawful-no_run words none path (inr s) = none (run path (Some 1), s)

-- ---- runs

-- the number that the word for workers ends with
workers_in : Option (List ℕ) → Option ℕ
workers_in None = None
workers_in (Some []) = None
workers_in (Some (digit ∷ rest)) = Some (digit - 48)

workers_are : (words : List (List ℕ)) (path : List ℕ) (workers : Option ℕ) → Say words (run path workers) → workers_in (found words (codes "workers")) ≡ workers
unfolding workers_in
workers_are words path workers s =
    workers_found words path workers (workers_in (found words (codes "workers"))) s (λ e. ap workers_in e)
    (λ n h e. ap workers_in e ∙ ap Some (let same : (48 + n) - 48 ≡ n = omega arith in same))

same_path : (words : List (List ℕ)) (p q : List ℕ) (v w : Option ℕ) → Say words (run p v) → Say words (run q w) → p ≡ q
same_path words p q v w s t = let same = sym (run_found words p v s).0 ∙ (run_found words q w t).0 in cc same

same_workers : (words : List (List ℕ)) (p q : List ℕ) (v w : Option ℕ) → Say words (run p v) → Say words (run q w) → v ≡ w
same_workers words p q v w s t = sym (workers_are words p v s) ∙ workers_are words q w t

-- words are a run of one path
pub one_run : (words : List (String Global)) (p q : List ℕ) → IsRunOf words p → IsRunOf words q → p ≡ q
one_run words p q (inl s) (inl t) = same_path (bytes_of_words words) p q None None s t
one_run words p q (inl s) (inr t) = same_path (bytes_of_words words) p q None (Some 1) s t
one_run words p q (inr s) (inl t) = same_path (bytes_of_words words) p q (Some 1) None s t
one_run words p q (inr s) (inr t) = same_path (bytes_of_words words) p q (Some 1) (Some 1) s t

-- more workers are no run on one hand
pub more-no_run : (words : List (String Global)) (path : List ℕ) (workers : ℕ) → workers ≢ 1 → Say (bytes_of_words words) (run path (Some workers)) → IsNoRun words
more-no_run words path workers more s other (inl t) = let same = same_workers (bytes_of_words words) path other (Some workers) None s t in cc same
more-no_run words path workers more s other (inr t) = let same = same_workers (bytes_of_words words) path other (Some workers) (Some 1) s t in more cc
