-- A block more, beside the entries.
use Rattle.std.proofs.Common.{◌≡◌, ℕ, suc, ◌+◌, ◌<◌, ◌≤◌, ◌==◌, ◌&&◌, Bool, true, false, cond, not, length, set, get_or, Option, Some, None, List, [], ◌∷◌, ◌++◌, refl, sym, ap, ◌∙◌, subst, arith, append_assoc}
use Rattle.std.specs.List.{position_or_len}
use Rattle.std.specs.Prelude.{nat_lt, position}
use Rattle.std.proofs.lemmas.Bool.{eqb-true, lt-ltb, ltb-true}
use Rattle.std.proofs.lemmas.List.Sums.{sum_by-cons}
use Rattle.entry_laws.specs.OpenEntries.{is_open_at, open_entries}
use Rattle.known_blocks.specs.Known.{AreShown, IsShown, has_none, is_open_of, known_text, text_with, with_block}
use Rattle.known_blocks.specs.declared.known.Shown.{Shown}
use Rattle.run_transcript.specs.Entries.{Entry, filled, filled_entry}
use Rattle.run_transcript.specs.Entries.Entry.{Told, Open}
use Rattle.script_text.specs.Blocks.{block_text}
use Rattle.script_text.specs.declared.block.Block.{Block}

opened_cons : (line : ℕ) (entry : Entry) (entries : List Entry) → open_entries line (entry ∷ entries) ≡ cond (is_open_at line entry) 1 0 + open_entries line entries
opened_cons line entry entries = sum_by-cons (λ e. cond (is_open_at line e) 1 0) entry entries

no_other : (b : Bool) (n : ℕ) → cond b 1 0 + n ≡ 0 → (b ≡ false) × (n ≡ 0)
no_other true n e = absurd (omega (arith, e))
no_other false n e = (refl, omega (arith, e))

kept_entry : (line : ℕ) (said : Block) (entry : Entry) → is_open_at line entry ≡ false → filled_entry line said entry ≡ entry
kept_entry line said (Told other block) e = refl
kept_entry line said (Open other) e = ap (λ (b : Bool). cond b (Told line said) (Open other)) e

-- entries of which none of the line is open stay
kept_all : (line : ℕ) (said : Block) (entries : List Entry) → open_entries line entries ≡ 0 → filled line said entries ≡ entries
kept_all line said [] e = refl
kept_all line said (entry ∷ entries) e =
    let parts = no_other (is_open_at line entry) (open_entries line entries) (sym (opened_cons line entry entries) ∙ e) in
    ap (λ (first : Entry). first ∷ filled line said entries) (kept_entry line said entry parts.0) ∙ ap (λ (rest : List Entry). entry ∷ rest) (kept_all line said entries parts.1)

module _ (sure : ℕ → Type 0) (line : ℕ) (block said : Block) (is : sure line → block ≡ said) where
  -- the first entry, open or told
  first_open : (b : Bool) (other : ℕ) (shown : Shown) (entries : List Entry) (more : List Shown) → (other == line) ≡ b → shown.line ≡ other → shown.block ≡ None
      → cond b 1 0 + open_entries line entries ≡ 1 → AreShown sure entries more → (open_entries line entries ≡ 1 → AreShown sure (filled line said entries) (with_block line block more))
      → AreShown sure (cond b (Told line said) (Open other) ∷ filled line said entries) (cond (b && true) (record shown { block = Some block } ∷ more) (shown ∷ with_block line block more))
  first_open true other shown entries more e at none count rest next =
      let none_left : open_entries line entries ≡ 0 = omega (arith, count) in
      (at ∙ eqb-true other line e, is, subst (λ (es : List Entry). AreShown sure es more) (sym (kept_all line said entries none_left)) rest)
  first_open false other shown entries more e at none count rest next = (at, subst (λ (o : Option Block). IsShown sure (Open other) o) (sym none) tt, next (omega (arith, count)))

  open_block : (line' : ℕ) (o : Option Block) → IsShown sure (Open line') o → o ≡ None
  open_block line' None h = refl
  open_block line' (Some b) h = absurd h

  told_block : (other : ℕ) (first : Block) (o : Option Block) → IsShown sure (Told other first) o → has_none o ≡ false
  told_block other first None h = absurd h
  told_block other first (Some b) h = refl

  both_false : (a b : Bool) → b ≡ false → (a && b) ≡ false
  both_false true b e = e
  both_false false b e = refl

  pub shows-filled : (entries : List Entry) (shown : List Shown) → open_entries line entries ≡ 1 → AreShown sure entries shown → AreShown sure (filled line said entries) (with_block line block shown)
  shows-filled [] [] count h = h
  shows-filled [] (shown ∷ more) count h = absurd h
  shows-filled (entry ∷ entries) [] count h = absurd h
  shows-filled (Told other first ∷ entries) (shown ∷ more) count h =
      let skip : is_open_of line shown ≡ false = both_false (shown.line == line) (has_none shown.block) (told_block other first shown.block h.1) in
      let left : open_entries line entries ≡ 1 = omega (arith, count, opened_cons line (Told other first) entries) in
      subst (λ (b : Bool). AreShown sure (Told other first ∷ filled line said entries) (cond b (record shown { block = Some block } ∷ more) (shown ∷ with_block line block more))) (sym skip)
      (h.0, h.1, shows-filled entries more left h.2)
  shows-filled (Open other ∷ entries) (shown ∷ more) count h =
      let none = open_block other shown.block h.1 in
      let test : is_open_of line shown ≡ ((other == line) && true) = ap (λ (n : ℕ). (n == line) && has_none shown.block) h.0 ∙ ap (λ (o : Option Block). (other == line) && has_none o) none in
      subst (λ (b : Bool). AreShown sure (filled line said (Open other ∷ entries)) (cond b (record shown { block = Some block } ∷ more) (shown ∷ with_block line block more))) (sym test)
      (first_open (other == line) other shown entries more refl h.0 none (sym (opened_cons line (Open other) entries) ∙ count) h.2 (λ left. shows-filled entries more left h.2))

-- ---- what is known grows at its end

grown_first : (b : Bool) (shown : Shown) (more : List Shown) (line : ℕ) (block : Block) → is_open_of line shown ≡ b → ((rest : List ℕ) × (known_text (with_block line block more) ≡ known_text more ++ rest))
    → (rest : List ℕ) × (known_text (cond b (record shown { block = Some block } ∷ more) (shown ∷ with_block line block more)) ≡ known_text (shown ∷ more) ++ rest)
grown_first b shown more line block e next = by b shown.block refl e
  where
    unknown : (a : Bool) (o : Option Block) → has_none o ≡ false → (a && has_none o) ≡ true → ⊥
    unknown true o h k = let clash : false ≡ true = sym h ∙ k in cc
    unknown false o h k = cc

    by : (c : Bool) (o : Option Block) → shown.block ≡ o → is_open_of line shown ≡ c
        → (rest : List ℕ) × (known_text (cond c (record shown { block = Some block } ∷ more) (shown ∷ with_block line block more)) ≡ known_text (shown ∷ more) ++ rest)
    by true None at is = (block_text shown.line block ++ known_text more, ap (λ (o : Option Block). text_with shown.line o (known_text more) ++ (block_text shown.line block ++ known_text more)) (sym at))
    by true (Some said) at is = absurd (unknown (shown.line == line) shown.block (ap has_none at) is)
    by false None at is = ([], ap (λ (o : Option Block). text_with shown.line o (known_text (with_block line block more))) at ∙ ap (λ (o : Option Block). text_with shown.line o (known_text more) ++ []) (sym at))
    by false (Some said) at is = (
      next.0,
      ap (λ (o : Option Block). text_with shown.line o (known_text (with_block line block more))) at
          ∙ (ap (λ (text : List ℕ). block_text shown.line said ++ text) next.1
          ∙ (sym (append_assoc (block_text shown.line said) (known_text more) next.0) ∙ ap (λ (o : Option Block). text_with shown.line o (known_text more) ++ next.0) (sym at))),
    )

pub adds-filled : (shown : List Shown) (line : ℕ) (block : Block) → (more : List ℕ) × (known_text (with_block line block shown) ≡ known_text shown ++ more)
adds-filled [] line block = ([], refl)
adds-filled (first ∷ more) line block = grown_first (is_open_of line first) first more line block refl (adds-filled more line block)

-- ---- the place of the block

module _ (line : ℕ) (block : Block) where
  abbrev set_block : List Shown → ℕ → Shown → Shown
  set_block shown n d = record { line = (get_or shown n d).line; block = Some block }

  set_step : (b : Bool) (first : Shown) (more : List Shown) (d : Shown) (n : ℕ) → (n < length more → set more n (set_block more n d) ≡ with_block line block more)
      → cond (not b) (1 + n) 0 < length (first ∷ more) → set (first ∷ more) (cond (not b) (1 + n) 0) (set_block (first ∷ more) (cond (not b) (1 + n) 0) d)
      ≡ cond b (record first { block = Some block } ∷ more) (first ∷ with_block line block more)
  set_step true first more d n ih h = refl
  set_step false first more d n ih h =
      let e : 1 + n ≡ suc n = omega arith in
      rw e (ap (λ (rest : List Shown). first ∷ rest) (ih (omega (arith, h))))

  pub set-first : (shown : List Shown) (d : Shown) → position_or_len (λ entry. is_open_of line entry) shown < length shown
      → set shown (position_or_len (λ entry. is_open_of line entry) shown) (set_block shown (position_or_len (λ entry. is_open_of line entry) shown) d) ≡ with_block line block shown
  set-first [] d h = absurd (omega (arith, h))
  set-first (first ∷ more) d h = set_step (is_open_of line first) first more d (position_or_len (λ entry. is_open_of line entry) more) (set-first more d) h

  none_step : (b : Bool) (first : Shown) (more : List Shown) (n : ℕ) → (length more ≤ n → with_block line block more ≡ more) → length (first ∷ more) ≤ cond (not b) (1 + n) 0
      → cond b (record first { block = Some block } ∷ more) (first ∷ with_block line block more) ≡ first ∷ more
  none_step true first more n ih h = absurd (omega (arith, h))
  none_step false first more n ih h = ap (λ (rest : List Shown). first ∷ rest) (ih (omega (arith, h)))

  pub none-first : (shown : List Shown) → length shown ≤ position_or_len (λ entry. is_open_of line entry) shown → with_block line block shown ≡ shown
  none-first [] h = refl
  none-first (first ∷ more) h = none_step (is_open_of line first) first more (position_or_len (λ entry. is_open_of line entry) more) (none-first more) h

  -- where a place is found, and where none is
  place_by : (b : Bool) (n m place : ℕ) → nat_lt n m ≡ b → cond b (Some n) None ≡ Some place → (n ≡ place) × (n < m)
  place_by true n m place e h = (let same : n ≡ place = cc in same, ltb-true n m e)
  place_by false n m place e h = let clash : None ≡ Some place = h in cc

  none_by : (b : Bool) (n m : ℕ) → nat_lt n m ≡ b → cond b (Some n) None ≡ None → m ≤ n
  none_by true n m e h = let clash : Some n ≡ None = h in cc
  none_by false n m e h =
      let never : ¬ (n < m) = λ lt. (let clash : true ≡ false = sym (lt-ltb n m lt) ∙ e in cc) in
      omega (arith, never)

  pub set-placed : (shown : List Shown) (place : ℕ) (d : Shown) → position (λ entry. is_open_of line entry) shown ≡ Some place → set shown place (set_block shown place d) ≡ with_block line block shown
  set-placed shown place d h =
      let n = position_or_len (λ entry. is_open_of line entry) shown in
      let at = place_by (nat_lt n (length shown)) n (length shown) place refl h in
      subst (λ (k : ℕ). set shown k (set_block shown k d) ≡ with_block line block shown) at.0 (set-first shown d at.1)

  pub none-placed : (shown : List Shown) → position (λ entry. is_open_of line entry) shown ≡ None → shown ≡ with_block line block shown
  none-placed shown h =
      let n = position_or_len (λ entry. is_open_of line entry) shown in
      sym (none-first shown (none_by (nat_lt n (length shown)) n (length shown) refl h))
