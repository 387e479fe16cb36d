-- The words of a line, one after another.
use Rattle.std.proofs.Common.{◌≡◌, ◌≤◌, ◌+◌, ℕ, suc, Bool, true, false, cond, not, ◌==◌, List, [], ◌∷◌, Option, Some, None, length, take, drop, refl, sym, ap, ◌∙◌, arith, unwrap_or}
use Rattle.std.specs.List.{before_first, filter, onto_first, position, position_or_len, slice_split}
use Rattle.std.specs.Prelude.{nat_lt}
use Rattle.std.proofs.lemmas.Bool.{eqb-true}
use Rattle.std.proofs.lemmas.Bool.Decides.{nat_tests}
use Rattle.std.proofs.lemmas.List.Sums.{prefix_len-le-length}
use Rattle.script_reader.specs.Lines.{after_word, first_word, is_blank, is_not_blank, is_word, trimmed_start, words_of}

-- the place of the first element that passes, or the length
pub place_or_length : (test : ℕ → Bool) (bytes : List ℕ) (o : Option ℕ) → o ≡ position test bytes → unwrap_or o (length bytes) ≡ position_or_len test bytes
place_or_length test bytes o e = rw e (split (nat_lt (position_or_len test bytes) (length bytes)) refl) where
  split : (b : Bool) → nat_lt (position_or_len test bytes) (length bytes) ≡ b → unwrap_or (cond b (Some (position_or_len test bytes)) None) (length bytes) ≡ position_or_len test bytes
  split true h = refl
  split false h = let low = prefix_len-le-length (λ x. not (test x)) bytes in grind (arith, nat_tests)

pub place_within : (test : ℕ → Bool) (bytes : List ℕ) → position_or_len test bytes ≤ length bytes
place_within test bytes = prefix_len-le-length (λ x. not (test x)) bytes

-- ---- a list that is split: the part before the first element that passes, and the parts after it

-- the parts of what stands from an element that passes on
abbrev parts_from : (ℕ → Bool) → List ℕ → List (List ℕ)
parts_from test [] = []
parts_from test (x ∷ xs) = slice_split test xs

pub split_front : (test : ℕ → Bool) (xs : List ℕ) → slice_split test xs ≡ before_first test xs ∷ parts_from test (drop (position_or_len test xs) xs)
split_front test [] = refl
split_front test (x ∷ xs) = split (test x) (split_front test xs) where
  split : (b : Bool) → slice_split test xs ≡ before_first test xs ∷ parts_from test (drop (position_or_len test xs) xs)
      → cond b ([] ∷ slice_split test xs) (onto_first x (slice_split test xs))
      ≡ take (cond (not b) (1 + position_or_len test xs) 0) (x ∷ xs) ∷ parts_from test (drop (cond (not b) (1 + position_or_len test xs) 0) (x ∷ xs))
  split true next = refl
  split false next = let e : 1 + position_or_len test xs ≡ suc (position_or_len test xs) = omega arith in rw e (ap (onto_first x) next)

-- an element that passes stands where the first part ends
first_passes : (test : ℕ → Bool) (xs : List ℕ) (y : ℕ) (ys : List ℕ) → drop (position_or_len test xs) xs ≡ y ∷ ys → test y ≡ true
first_passes test [] y ys e = absurd cc
first_passes test (x ∷ xs) y ys e = split (test x) refl (first_passes test xs y ys) e where
  head : x ∷ xs ≡ y ∷ ys → x ≡ y
  head h = cc

  split : (b : Bool) → test x ≡ b → (drop (position_or_len test xs) xs ≡ y ∷ ys → test y ≡ true)
      → drop (cond (not b) (1 + position_or_len test xs) 0) (x ∷ xs) ≡ y ∷ ys → test y ≡ true
  split true p next h = ap test (sym (head h)) ∙ p
  split false p next h = let e : 1 + position_or_len test xs ≡ suc (position_or_len test xs) = omega arith in next (rw e at h)

-- ---- words

-- a blank in front makes no word
words_blank : (x : ℕ) (xs : List ℕ) → is_blank x ≡ true → words_of (x ∷ xs) ≡ words_of xs
words_blank x xs e = by (is_blank x) e where
  by : (b : Bool) → b ≡ true → filter is_word (cond b ([] ∷ slice_split is_blank xs) (onto_first x (slice_split is_blank xs))) ≡ words_of xs
  by true h = refl
  by false h = absurd cc

pub words_trimmed : (line : List ℕ) → words_of (trimmed_start line) ≡ words_of line
words_trimmed [] = refl
words_trimmed (x ∷ xs) = split (is_blank x) refl (words_trimmed xs) where
  split : (b : Bool) → is_blank x ≡ b → words_of (trimmed_start xs) ≡ words_of xs → words_of (drop (cond (not (not b)) (1 + position_or_len is_not_blank xs) 0) (x ∷ xs)) ≡ words_of (x ∷ xs)
  split true e next = let more : 1 + position_or_len is_not_blank xs ≡ suc (position_or_len is_not_blank xs) = omega arith in rw more (next ∙ sym (words_blank x xs e))
  split false e next = refl

-- what is left of parts: the words of what stands from a blank on
words_left : (rest : List ℕ) → ((y : ℕ) (ys : List ℕ) → rest ≡ y ∷ ys → is_blank y ≡ true) → filter is_word (parts_from is_blank rest) ≡ words_of rest
words_left [] h = refl
words_left (y ∷ ys) h = sym (words_blank y ys (h y ys refl))

-- no blank stands in front of what is trimmed
trimmed_first : (line : List ℕ) (y : ℕ) (ys : List ℕ) → trimmed_start line ≡ y ∷ ys → is_blank y ≡ false
trimmed_first line y ys e = let passes = first_passes is_not_blank line y ys e in by (is_blank y) passes where
  by : (b : Bool) → not b ≡ true → b ≡ false
  by true h = absurd cc
  by false h = refl

-- a word and the words after it
pub words_cut : (line : List ℕ) (y : ℕ) (ys : List ℕ) → trimmed_start line ≡ y ∷ ys → words_of line ≡ first_word line ∷ words_of (after_word line)
words_cut line y ys e =
    sym (words_trimmed line) ∙ ap (filter is_word) (split_front is_blank (trimmed_start line))
    ∙ kept (first_word line) (parts_from is_blank (after_word line)) (word_there (trimmed_start line) y ys e (trimmed_first line y ys e))
    ∙ ap (λ (ws : List (List ℕ)). first_word line ∷ ws) (words_left (after_word line) (λ z zs h. first_passes is_blank (trimmed_start line) z zs h))
  where
    word_there : (text : List ℕ) (y : ℕ) (ys : List ℕ) → text ≡ y ∷ ys → is_blank y ≡ false → is_word (before_first is_blank text) ≡ true
    word_there [] y ys e h = absurd cc
    word_there (x ∷ xs) y ys e h = by (is_blank x) (ap is_blank (head e) ∙ h) where
      head : x ∷ xs ≡ y ∷ ys → x ≡ y
      head h = cc

      by : (b : Bool) → b ≡ false → is_word (take (cond (not b) (1 + position_or_len is_blank xs) 0) (x ∷ xs)) ≡ true
      by true h = absurd cc
      by false h = let more : 1 + position_or_len is_blank xs ≡ suc (position_or_len is_blank xs) = omega arith in rw more refl

    kept : (word : List ℕ) (words : List (List ℕ)) → is_word word ≡ true → filter is_word (word ∷ words) ≡ word ∷ filter is_word words
    kept word words h = by (is_word word) h where
      by : (b : Bool) → b ≡ true → cond b (word ∷ filter is_word words) (filter is_word words) ≡ word ∷ filter is_word words
      by true h = refl
      by false h = absurd cc

pub no_words : (line : List ℕ) → trimmed_start line ≡ [] → words_of line ≡ []
no_words line e = sym (words_trimmed line) ∙ ap words_of e

pub empty_text : (text : List ℕ) (b : Bool) → b ≡ (length text == 0) → b ≡ true → text ≡ []
empty_text [] b p q = refl
empty_text (x ∷ xs) b p q = absurd (omega (arith, eqb-true (length (x ∷ xs)) 0 (sym p ∙ q)))

-- what is cut off a line that has a word
pub word_and_rest : (line text : List ℕ) → text ≡ trimmed_start line → (b : Bool) → b ≡ (length text == 0) → b ≡ false → (word rest : List ℕ)
    → word ≡ before_first is_blank text → rest ≡ drop (position_or_len is_blank text) text → words_of line ≡ word ∷ words_of rest
word_and_rest line [] e b p q word rest f r = absurd cc
word_and_rest line (y ∷ ys) e b p q word rest f r =
    words_cut line y ys (sym e)
    ∙ (ap (λ (t : List ℕ). before_first is_blank t ∷ words_of (drop (position_or_len is_blank t) t)) (sym e) ∙ (rw (f, r) refl))
