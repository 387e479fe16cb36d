-- Words say one command over its paths.
use Rattle.std.proofs.Common.{◌≡◌, ◌⊎◌, ℕ, List, [], ◌∷◌, Option, Some, None, sym, subst, ◌∙◌, inl, inr}
use Rattle.command_line.specs.Words.{AreLawful, Say, bytes_of_words, run, demo, fold, cuboids, step}
use Rattle.cubes_plain.specs.Words.{IsCuboids, IsFold, IsNoCommand, IsOver, IsStep}
use Rattle.std.specs.declared.alloc.Global.{Global}
use Rattle.std.specs.declared.string.String.{String}

-- `fold`
abbrev fold_word : List ℕ
fold_word = 102 ∷ 111 ∷ 108 ∷ 100 ∷ []

-- `cuboids`
abbrev cuboids_word : List ℕ
cuboids_word = 99 ∷ 117 ∷ 98 ∷ 111 ∷ 105 ∷ 100 ∷ 115 ∷ []

-- `run`
abbrev run_word : List ℕ
run_word = 114 ∷ 117 ∷ 110 ∷ []

-- `step`
abbrev step_word : List ℕ
step_word = 115 ∷ 116 ∷ 101 ∷ 112 ∷ []

-- words that are not two, of which the first is `fold` or `cuboids`, are over no path
abbrev IsOverNone : List (List ℕ) → Type 0
IsOverNone words = (path : List ℕ) → (words ≡ fold_word ∷ path ∷ []) ⊎ (words ≡ cuboids_word ∷ path ∷ []) → ⊥

-- .. and words that are not four are no `step`
abbrev IsOther : List (List ℕ) → Type 0
IsOther words = IsOverNone words × ((task product stop : List ℕ) → words ≡ step_word ∷ task ∷ product ∷ stop ∷ [] → ⊥)

over_none : (words : List (String Global)) → IsOverNone (bytes_of_words words) → (path : List ℕ) → IsOver words path → ⊥
over_none words other path (inl h) = other path (inl h.0)
over_none words other path (inr h) = other path (inr h.0)

pub other_words : (words : List (String Global)) → IsOther (bytes_of_words words) → IsNoCommand words
other_words words other = (over_none words other.0, λ task product stop h. other.1 task product stop h.0)

-- words that say nothing are no command
unlawful_over : (words : List (String Global)) → (AreLawful (bytes_of_words words) → ⊥) → (path : List ℕ) → IsOver words path → ⊥
unlawful_over words none path (inl h) = none (fold path, h)
unlawful_over words none path (inr h) = none (cuboids path, h)

pub unlawful_words : (words : List (String Global)) → (AreLawful (bytes_of_words words) → ⊥) → IsNoCommand words
unlawful_words words none = (unlawful_over words none, λ task product stop h. none (step task product stop, h))

one_over : (words : List (List ℕ)) (a : List ℕ) → words ≡ run_word ∷ a ∷ [] → IsOverNone words
one_over words a h path (inl k) = let same : run_word ∷ a ∷ [] ≡ fold_word ∷ path ∷ [] = sym h ∙ k in cc same
one_over words a h path (inr k) = let same : run_word ∷ a ∷ [] ≡ cuboids_word ∷ path ∷ [] = sym h ∙ k in cc same

no_one : (words : List (List ℕ)) (a : List ℕ) → words ≡ run_word ∷ a ∷ [] → IsOther words
no_one words a h = (one_over words a h, λ task product stop k. let same : run_word ∷ a ∷ [] ≡ step_word ∷ task ∷ product ∷ stop ∷ [] = sym h ∙ k in cc same)

three_over : (words : List (List ℕ)) (a b c : List ℕ) (more : List (List ℕ)) → words ≡ a ∷ b ∷ c ∷ more → IsOverNone words
three_over words a b c more h path (inl k) = let same : a ∷ b ∷ c ∷ more ≡ fold_word ∷ path ∷ [] = sym h ∙ k in cc same
three_over words a b c more h path (inr k) = let same : a ∷ b ∷ c ∷ more ≡ cuboids_word ∷ path ∷ [] = sym h ∙ k in cc same

no_three : (words : List (List ℕ)) (a b c : List ℕ) → words ≡ a ∷ b ∷ c ∷ [] → IsOther words
no_three words a b c h = (three_over words a b c [] h, λ task product stop k. let same : a ∷ b ∷ c ∷ [] ≡ step_word ∷ task ∷ product ∷ stop ∷ [] = sym h ∙ k in cc same)

-- words of another command are over no path
pub run_words : (words : List (List ℕ)) (path : List ℕ) (workers : Option ℕ) → Say words (run path workers) → IsOther words
run_words words path None h = no_one words path h.0
run_words words path (Some n) h = by h.1
  where
    by : (words ≡ run_word ∷ path ∷ h.0 ∷ []) ⊎ (words ≡ run_word ∷ h.0 ∷ path ∷ []) → IsOther words
    by (inl k) = no_three words run_word path h.0 k
    by (inr k) = no_three words run_word h.0 path k

pub demo_words : (words : List (List ℕ)) (number rows : ℕ) → Say words (demo number rows) → IsOther words
demo_words words number rows h = no_three words _ h.0 h.1 h.2

-- words of `step` are over no path
pub step_over : (words : List (String Global)) (task product stop path : List ℕ) → IsStep words task product stop → IsOver words path → ⊥
step_over words task product stop path h (inl k) = three_over (bytes_of_words words) _ task product (stop ∷ []) h.0 path (inl k.0)
step_over words task product stop path h (inr k) = three_over (bytes_of_words words) _ task product (stop ∷ []) h.0 path (inr k.0)

-- words of both commands
both : (words : List (List ℕ)) (p q : List ℕ) → words ≡ fold_word ∷ p ∷ [] → words ≡ cuboids_word ∷ q ∷ [] → ⊥
both words p q h k = let same : fold_word ∷ p ∷ [] ≡ cuboids_word ∷ q ∷ [] = sym h ∙ k in cc same

pub not_both : (words : List (String Global)) (p q : List ℕ) → IsFold words p → IsCuboids words q → ⊥
not_both words p q h k = both (bytes_of_words words) p q h.0 k.0

-- words are those of one path
pub one_fold : (words : List (String Global)) (p q : List ℕ) → IsFold words p → IsFold words q → p ≡ q
one_fold words p q a b = let same = sym a.0 ∙ b.0 in cc same

pub one_cuboids : (words : List (String Global)) (p q : List ℕ) → IsCuboids words p → IsCuboids words q → p ≡ q
one_cuboids words p q a b = let same = sym a.0 ∙ b.0 in cc same

pub over_fold : (words : List (String Global)) (p q : List ℕ) → IsOver words p → IsFold words q → p ≡ q
over_fold words p q (inl a) b = one_fold words p q a b
over_fold words p q (inr a) b = absurd (not_both words q p b a)

pub over_cuboids : (words : List (String Global)) (p q : List ℕ) → IsOver words p → IsCuboids words q → p ≡ q
over_cuboids words p q (inl a) b = absurd (not_both words p q a b)
over_cuboids words p q (inr a) b = one_cuboids words p q a b

-- a fact on the paths of one `step` is one on those of every `step` that the words say
pub along_step : (P : List ℕ → List ℕ → List ℕ → Type 0) (words : List (String Global)) (t p s task product stop : List ℕ) → IsStep words t p s → IsStep words task product stop → P t p s → P task product stop
along_step P words t p s task product stop a b h =
    let same = sym a.0 ∙ b.0 in
    let first : t ≡ task = cc same in
    let second : p ≡ product = cc same in
    let third : s ≡ stop = cc same in
    subst (λ (x : List ℕ). P task product x) third (subst (λ (x : List ℕ). P task x s) second (subst (λ (x : List ℕ). P x p s) first h))
