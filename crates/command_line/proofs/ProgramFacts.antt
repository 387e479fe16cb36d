-- What the parser of command lines finds in lawful words.
use Rattle.std.proofs.Common.{◌≡◌, ◌≢◌, ◌==◌, ◌+◌, ℕ, List, [], ◌∷◌, ◌++◌, Some, None, Option, true, false, refl, rules, arith, ap, sym, ◌∙◌, ◌≤◌, IsSome, inl, inr}
use Rattle.std.specs.Prelude.{codes, option_map}
use Rattle.std.proofs.lemmas.Bool.Decides.{nat_tests}
use Rattle.clap.specs.Words.{Row, Text, first_of, subcommand_of, takes}
use Rattle.clap.proofs.OnLiterals.{clap_on_literals}
use Rattle.std.proofs.lemmas.Str.Parse.{digit_from_value}
use Rattle.command_line.specs.declared.form.Form.{Form}
use Rattle.command_line.specs.declared.form.Form.TheVariants as form
use Rattle.command_line.specs.Forms.{HasForm}
use Rattle.command_line.specs.Values.{cubes, value_in}
use Rattle.command_line.specs.Words.{AreLawful, Command, Say, Writes, run, demo, fold, cuboids, step}

-- the value that is found for an argument
abbrev pub found : List Text → Text → Option Text
found words id = value_in (subcommand_of cubes words) id

run_words : (x : ℕ) (xs : List ℕ) → (x == 45) ≡ false
    → (found (codes "run" ∷ (x ∷ xs) ∷ []) (codes "path") ≡ Some (x ∷ xs)) × (found (codes "run" ∷ (x ∷ xs) ∷ []) (codes "workers") ≡ None)
    × (takes cubes (codes "run" ∷ (x ∷ xs) ∷ []) ≡ true)
unfolding clap_on_literals
run_words x xs e = (rw (e, e) refl, rw (e, e) refl, rw (e, e) refl)

run_first : (x : ℕ) (xs : List ℕ) (d : ℕ) → (x == 45) ≡ false → let words : List Text = codes "run" ∷ (x ∷ xs) ∷ (codes "--workers=" ++ d ∷ []) ∷ [] in
    (found words (codes "path") ≡ Some (x ∷ xs)) × (found words (codes "workers") ≡ Some (d ∷ [])) × (takes cubes words ≡ true)
unfolding clap_on_literals
run_first x xs d e = (rw (e, e) refl, rw (e, e) refl, rw (e, e) refl)

run_last : (x : ℕ) (xs : List ℕ) (d : ℕ) → (x == 45) ≡ false → let words : List Text = codes "run" ∷ (codes "--workers=" ++ d ∷ []) ∷ (x ∷ xs) ∷ [] in
    (found words (codes "path") ≡ Some (x ∷ xs)) × (found words (codes "workers") ≡ Some (d ∷ [])) × (takes cubes words ≡ true)
unfolding clap_on_literals
run_last x xs d e = (rw (e, e) refl, rw (e, e) refl, rw (e, e) refl)

demo_words : (x : ℕ) (xs : List ℕ) (y : ℕ) (ys : List ℕ) → (x == 45) ≡ false → (y == 45) ≡ false → let words : List Text = codes "demo" ∷ (x ∷ xs) ∷ (y ∷ ys) ∷ [] in
    (found words (codes "number") ≡ Some (x ∷ xs)) × (found words (codes "rows") ≡ Some (y ∷ ys)) × (takes cubes words ≡ true)
unfolding clap_on_literals
demo_words x xs y ys e f = (rw (e, e, f, f) refl, rw (e, e, f, f) refl, rw (e, e, f, f) refl)

fold_words : (x : ℕ) (xs : List ℕ) → (x == 45) ≡ false → let words : List Text = codes "fold" ∷ (x ∷ xs) ∷ [] in
    (found words (codes "path") ≡ Some (x ∷ xs)) × (takes cubes words ≡ true)
unfolding clap_on_literals
fold_words x xs e = (rw (e, e) refl, rw (e, e) refl)

cuboids_words : (x : ℕ) (xs : List ℕ) → (x == 45) ≡ false → let words : List Text = codes "cuboids" ∷ (x ∷ xs) ∷ [] in
    (found words (codes "path") ≡ Some (x ∷ xs)) × (takes cubes words ≡ true)
unfolding clap_on_literals
cuboids_words x xs e = (rw (e, e) refl, rw (e, e) refl)

step_words : (x : ℕ) (xs : List ℕ) (y : ℕ) (ys : List ℕ) (z : ℕ) (zs : List ℕ) → (x == 45) ≡ false → (y == 45) ≡ false → (z == 45) ≡ false
    → let words : List Text = codes "step" ∷ (x ∷ xs) ∷ (y ∷ ys) ∷ (z ∷ zs) ∷ [] in
    (found words (codes "task") ≡ Some (x ∷ xs)) × (found words (codes "product") ≡ Some (y ∷ ys)) × (found words (codes "stop") ≡ Some (z ∷ zs)) × (takes cubes words ≡ true)
unfolding clap_on_literals
step_words x xs y ys z zs e f g = (rw (e, e, f, f, g, g) refl, rw (e, e, f, f, g, g) refl, rw (e, e, f, f, g, g) refl, rw (e, e, f, f, g, g) refl)

not_dash : (x : ℕ) → x ≢ 45 → (x == 45) ≡ false
not_dash x n = grind (arith, nat_tests)

digit_first : (most n x : ℕ) (xs : List ℕ) → Writes most (x ∷ xs) n → (x == 45) ≡ false
digit_first most n x xs w = let range = digit_from_value x w.1.1.0 in not_dash x (λ e. omega (arith, e, range))

-- .. in words of each command
pub run_found : (words : List Text) (path : List ℕ) (workers : Option ℕ) → Say words (run path workers) → (found words (codes "path") ≡ Some path) × (takes cubes words ≡ true)
run_found words [] None s = absurd (s.1.0 refl)
run_found words (x ∷ xs) None s = let h = run_words x xs (not_dash x s.1.1) in rw s.0 (h.0, h.2)
run_found words [] (Some n) s = absurd (s.2.0 refl)
run_found words (x ∷ xs) (Some n) s =
    elim s.1 [
      | inl e ↦ let h = run_first x xs (48 + n) (not_dash x s.2.1) in rw (e, s.3.0) (h.0, h.2)
      | inr e ↦ let h = run_last x xs (48 + n) (not_dash x s.2.1) in rw (e, s.3.0) (h.0, h.2)
    ]

pub workers_found : (words : List Text) (path : List ℕ) (workers r : Option ℕ) → Say words (run path workers) → (found words (codes "workers") ≡ None → r ≡ None)
    → ((n : ℕ) → n ≤ 8 → found words (codes "workers") ≡ Some ((48 + n) ∷ []) → r ≡ Some n) → r ≡ workers
workers_found words [] None r s none some = absurd (s.1.0 refl)
workers_found words (x ∷ xs) None r s none some = none (rw s.0 (run_words x xs (not_dash x s.1.1)).1)
workers_found words [] (Some n) r s none some = absurd (s.2.0 refl)
workers_found words (x ∷ xs) (Some n) r s none some =
    some n s.3.2 (elim s.1 [
      | inl e ↦ rw (e, s.3.0) (run_first x xs (48 + n) (not_dash x s.2.1)).1
      | inr e ↦ rw (e, s.3.0) (run_last x xs (48 + n) (not_dash x s.2.1)).1
    ])

pub demo_found : (words : List Text) (number rows : ℕ) (a b : List ℕ) → words ≡ codes "demo" ∷ a ∷ b ∷ [] → Writes 9 a number → Writes 6 b rows
    → (found words (codes "number") ≡ Some a) × (found words (codes "rows") ≡ Some b) × (takes cubes words ≡ true)
demo_found words number rows [] b e v w = let none = v.1.0 in absurd (omega arith)
demo_found words number rows (x ∷ xs) [] e v w = let none = w.1.0 in absurd (omega arith)
demo_found words number rows (x ∷ xs) (y ∷ ys) e v w = rw e (demo_words x xs y ys (digit_first 9 number x xs v) (digit_first 6 rows y ys w))

pub fold_found : (words : List Text) (path : List ℕ) → Say words (fold path) → (found words (codes "path") ≡ Some path) × (takes cubes words ≡ true)
fold_found words [] s = absurd (s.1.0 refl)
fold_found words (x ∷ xs) s = rw s.0 (fold_words x xs (not_dash x s.1.1))

pub cuboids_found : (words : List Text) (path : List ℕ) → Say words (cuboids path) → (found words (codes "path") ≡ Some path) × (takes cubes words ≡ true)
cuboids_found words [] s = absurd (s.1.0 refl)
cuboids_found words (x ∷ xs) s = rw s.0 (cuboids_words x xs (not_dash x s.1.1))

pub step_found : (words : List Text) (task product stop : List ℕ) → Say words (step task product stop)
    → (found words (codes "task") ≡ Some task) × (found words (codes "product") ≡ Some product) × (found words (codes "stop") ≡ Some stop) × (takes cubes words ≡ true)
step_found words [] product stop s = absurd (s.1.0 refl)
step_found words (x ∷ xs) [] stop s = absurd (s.2.0 refl)
step_found words (x ∷ xs) (y ∷ ys) [] s = absurd (s.3.0 refl)
step_found words (x ∷ xs) (y ∷ ys) (z ∷ zs) s = rw s.0 (step_words x xs y ys z zs (not_dash x s.1.1) (not_dash y s.2.1) (not_dash z s.3.1))

-- the parser takes every lawful list of words
taken : (words : List Text) (command : Command) → Say words command → takes cubes words ≡ true
taken words (run path workers) s = (run_found words path workers s).1
taken words (demo number rows) s = (demo_found words number rows s.0 s.1 s.2 s.3 s.4.0).2
taken words (fold path) s = (fold_found words path s).1
taken words (cuboids path) s = (cuboids_found words path s).1
taken words (step task product stop) s = (step_found words task product stop s).3

pub lawful_taken : (words : List Text) → AreLawful words → takes cubes words ≡ true
lawful_taken words s = taken words s.0 s.1

-- words of a form are lawful
pub lawful : (f : Form) (words : List Text) → HasForm f words → AreLawful words
lawful form.Run words h = (run h.0 h.1, h.2)
lawful form.Demo words h = (demo h.0 h.1, h.2)
lawful form.Fold words h = (fold h.0, h.1)
lawful form.Cuboids words h = (cuboids h.0, h.1)
lawful form.Step words h = (step h.0 h.1 h.2, h.3)

-- one value
pub same_value : (o : Option Text) (a b : Text) → o ≡ Some a → o ≡ Some b → a ≡ b
same_value o a b p q = let e : Some a ≡ Some b = sym p ∙ q in cc

pub is_there : (o : Option Text) (a : Text) → o ≡ Some a → IsSome o
is_there None a e = let bad : None ≡ Some a = e in absurd (search rules)
is_there (Some t) a e = search rules

-- the value of an argument, from the rows of the subcommand
pub value_at : (o : Option (Text × List Row)) (rows : List Row) (id : Text) → Some rows ≡ option_map (λ p. p.1) o → value_in o id ≡ first_of id rows
value_at None rows id e = absurd (search rules)
value_at (Some p) rows id e = let same : p.1 ≡ rows = cc e in ap (first_of id) same
