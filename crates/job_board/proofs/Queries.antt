-- The next query, and the cells over which it is answered.
use Rattle.std.proofs.Common.{◌≡◌, ℕ, zero, suc, ◌+◌, ◌<◌, ◌≤◌, ◌↔◌, ◌⊎◌, inl, inr, Bool, true, false, cond, not, ◌==◌, ◌&&◌, ◌||◌, Option, Some, None, List, [], ◌∷◌, length, map, drop, get_or, slice_get, refl, sym, ap, ◌∙◌, subst, arith}
use Rattle.std.specs.Prelude.{find, is_some, option_map, position}
use Rattle.std.specs.List.{AllByRecursion, list_any, position_or_len}
use Rattle.std.proofs.lemmas.Bool.{eq-eqb, ne_eqb}
use Rattle.std.proofs.lemmas.List.Quantifiers.{position-Some}
use Rattle.std.proofs.lemmas.List.Sums.{sum_by-cons}
use Rattle.byte_frame.specs.Spelling.{EachFits}
use Rattle.fixed_cube.specs.Answers.{by_first}
use Rattle.fixed_cube.specs.Cells.{Cell}
use Rattle.fixed_cube.specs.Cube.{FitsSnapshot}
use Rattle.fixed_state.specs.Kept.{AreKept, IsReadyKept}
use Rattle.fixed_state.specs.Ready.{AreCellsOf, base_of_segment}
use Rattle.fixed_state.specs.States.{FixedState, StandsFor, cells_of}
use Rattle.job_board.specs.BoardModel.{is_free, next_query}
use Rattle.plain_answer.specs.declared.ask.Ask.{Ask as Query}
use Rattle.run_history.specs.Histories.{IsFresh, IsInFlight, IsLawful, claim_count}
use Rattle.run_history.specs.Sets.{ReadySet}
use Rattle.run_history.specs.Commands.Turn.{QueryEnds}
use Rattle.run_history.specs.World.{Asked, Waiting, World, number}
use Rattle.run_history.specs.declared.event.QueryOut.{QueryOut}
use Rattle.run_history.specs.declared.event.QueryOut.TheVariants.{Answered, Memory as NoAnswer}
use Rattle.run_history.proofs.Lists.{cond_at_false, cond_at_true}
use Rattle.run_state.specs.Orders.{is_asking, products_of}
use Rattle.run_state.specs.States.{answered_in, claim_of, in_flight_of, waiting_of}
use Rattle.run_state.specs.declared.parts.QueryInFlight.{QueryInFlight}
use Rattle.run_state.specs.declared.parts.Session.{Session}
use Rattle.run_state.specs.declared.parts.WaitingQuery.{WaitingQuery}
use Rattle.run_state.proofs.Lists.{any_map, find_map, none_there, query_found, some_eq}

-- ---- lists

find_at : {X : Type 0} (p : X → Bool) (xs : List X) (k : ℕ) (q : X) → slice_get xs k ≡ Some q → p q ≡ true → ((j : ℕ) → j < k → p (get_or xs j q) ≡ false) → find p xs ≡ Some q
find_at p [] k q e t n = cc
find_at p (x ∷ xs) zero q e t n = let same : x ≡ q = some_eq x q e in cond_at_true (p x) (Some x) (find p xs) (ap p same ∙ t) ∙ ap (λ (y : _). Some y) same
find_at p (x ∷ xs) (suc k) q e t n = cond_at_false (p x) (Some x) (find p xs) (n 0 (omega arith)) ∙ find_at p xs k q e t (λ j lt. n (suc j) (omega arith))

get_is : {X : Type 0} (xs : List X) (k : ℕ) (q d : X) → slice_get xs k ≡ Some q → get_or xs k d ≡ q
get_is [] k q d e = cc
get_is (x ∷ xs) zero q d e = some_eq x q e
get_is (x ∷ xs) (suc k) q d e = get_is xs k q d e

find_absent : {X : Type 0} (p : X → Bool) (xs : List X) → length xs ≤ position_or_len p xs → find p xs ≡ None
find_absent p [] h = refl
find_absent p (x ∷ xs) h = by_test (p x) (find_absent p xs) h
  where
    by_test : (t : Bool) → (length xs ≤ position_or_len p xs → find p xs ≡ None) → length (x ∷ xs) ≤ cond (not t) (1 + position_or_len p xs) 0 → cond t (Some x) (find p xs) ≡ None
    by_test true rest k = absurd (omega arith)
    by_test false rest k = rest (omega arith)

find_same : {X : Type 0} (p q : X → Bool) (xs : List X) → ((x : X) → p x ≡ q x) → find p xs ≡ find q xs
find_same p q [] h = refl
find_same p q (x ∷ xs) h = ap (λ (t : Bool). cond t (Some x) (find p xs)) (h x) ∙ ap (λ (o : Option _). cond (q x) (Some x) o) (find_same p q xs h)

all_found : {X : Type 0} (P : X → Type 0) (test : X → Bool) (xs : List X) (x : X) → AllByRecursion P xs → find test xs ≡ Some x → P x
all_found P test [] x h e = cc
all_found P test (y ∷ xs) x h e = by_test (test y) (all_found P test xs x h.1) e
  where
    by_test : (b : Bool) → (find test xs ≡ Some x → P x) → cond b (Some y) (find test xs) ≡ Some x → P x
    by_test true rest f = let same : y ≡ x = cc in subst P same h.0
    by_test false rest f = rest f

found_any : {X : Type 0} (p : X → Bool) (xs : List X) → list_any p xs ≡ is_some (find p xs)
found_any p [] = refl
found_any p (x ∷ xs) = by_test (p x) (found_any p xs)
  where
    by_test : (b : Bool) → list_any p xs ≡ is_some (find p xs) → b || list_any p xs ≡ is_some (cond b (Some x) (find p xs))
    by_test true rest = refl
    by_test false rest = rest

-- ---- the version of a session's last answer

answered_at : (ss : List Session) (i session : ℕ) (d : Session) → i < length ss
    → answered_in (drop i ss) session ≡ cond ((get_or ss i d).session == session) (get_or ss i d).answered (answered_in (drop (i + 1) ss) session)
answered_at ss i session d h = let one : i + 1 ≡ suc i = omega arith in rw one (at ss i h)
  where
    at : (xs : List Session) (k : ℕ) → k < length xs → answered_in (drop k xs) session ≡ cond ((get_or xs k d).session == session) (get_or xs k d).answered (answered_in (drop (suc k) xs) session)
    at [] k h = absurd (omega (arith, h))
    at (x ∷ xs) zero h = refl
    at (x ∷ xs) (suc k) h = at xs k (omega (arith, h))

pub answered_end : (ss : List Session) (i session : ℕ) → length ss ≤ i → answered_in (drop i ss) session ≡ 0
answered_end [] zero session h = refl
answered_end [] (suc i) session h = refl
answered_end (x ∷ ss) zero session h = absurd (omega (arith, h))
answered_end (x ∷ ss) (suc i) session h = answered_end ss i session (omega (arith, h))

pub answered_later : (ss : List Session) (i session : ℕ) (d : Session) → i < length ss → ((get_or ss i d).session ≡ session → ⊥) → answered_in (drop (i + 1) ss) session ≡ answered_in (drop i ss) session
answered_later ss i session d h ne = sym (answered_at ss i session d h ∙ cond_at_false ((get_or ss i d).session == session) _ _ (ne_eqb (get_or ss i d).session session ne))

pub answered_now : (ss : List Session) (i session : ℕ) (d : Session) → i < length ss → (get_or ss i d).session ≡ session → (get_or ss i d).answered ≡ answered_in (drop i ss) session
answered_now ss i session d h e = sym (answered_at ss i session d h ∙ cond_at_true ((get_or ss i d).session == session) _ _ (eq-eqb (get_or ss i d).session session e))

-- ---- the next query

module _ (w : World Query) (s : FixedState) (i : StandsFor w s) where
  free_same : (session : ℕ) → is_free w session ≡ not (is_asking s.asked.items session)
  free_same session = ap not (sym (any_map in_flight_of (λ (q : QueryInFlight). q.session == session) w.asked) ∙ ap (list_any (λ (q : QueryInFlight). q.session == session)) i.asked)

  next_same : next_query w ≡ option_map waiting_of (find (λ q. not (is_asking s.asked.items q.session)) s.waiting.items)
  next_same =
      ap (find (λ (q : Waiting Query). is_free w q.session)) i.waiting
      ∙ (sym (find_map waiting_of (λ (q : Waiting Query). is_free w q.session) s.waiting.items)
      ∙ ap (option_map waiting_of) (find_same (λ (q : WaitingQuery Query). is_free w q.session) (λ q. not (is_asking s.asked.items q.session)) s.waiting.items (λ q. free_same q.session)))

  pub next_is : (place : ℕ) (q : WaitingQuery Query) → position (λ q. not (is_asking s.asked.items q.session)) s.waiting.items ≡ Some place → slice_get s.waiting.items place ≡ Some q → next_query w ≡ Some (waiting_of q)
  next_is place q found there =
      let facts = position-Some (λ (x : WaitingQuery Query). not (is_asking s.asked.items x.session)) s.waiting.items place q found in
      next_same ∙ ap (option_map waiting_of) (find_at (λ (x : WaitingQuery Query). not (is_asking s.asked.items x.session)) s.waiting.items place q there
      (sym (ap (λ (x : WaitingQuery Query). not (is_asking s.asked.items x.session)) (get_is s.waiting.items place q q there)) ∙ facts.1) facts.2)

  pub next_none : position (λ q. not (is_asking s.asked.items q.session)) s.waiting.items ≡ None → next_query w ≡ None
  next_none found =
      next_same ∙ ap (option_map waiting_of) (find_absent (λ (x : WaitingQuery Query). not (is_asking s.asked.items x.session)) s.waiting.items
      (none_there (position_or_len (λ (x : WaitingQuery Query). not (is_asking s.asked.items x.session)) s.waiting.items) (length s.waiting.items) found))

  -- the query of a line is the one at its place
  pub line_is : (place : ℕ) (q : WaitingQuery Query) (x : Waiting Query) → slice_get s.waiting.items place ≡ Some q → find (λ other. other.line == q.line) w.waiting ≡ Some x → waiting_of q ≡ x
  line_is place q x there e = some_eq (waiting_of q) x (sym (ap (find (λ (other : Waiting Query). other.line == q.line)) i.waiting ∙ query_found 0 s.line s.waiting.items place q s.rising there) ∙ e)

  pub asked_same : (line : ℕ) → list_any (λ q. q.line == line) s.asked.items ≡ list_any (λ q. q.waiting.line == line) w.asked
  asked_same line = ap (list_any (λ (q : QueryInFlight). q.line == line)) (sym i.asked) ∙ any_map in_flight_of (λ (q : QueryInFlight). q.line == line) w.asked

  pub flight_same : (line : ℕ) → option_map in_flight_of (find (λ q. q.waiting.line == line) w.asked) ≡ find (λ q. q.line == line) s.asked.items
  flight_same line = find_map in_flight_of (λ (q : QueryInFlight). q.line == line) w.asked ∙ ap (find (λ (q : QueryInFlight). q.line == line)) i.asked

  pub by_first_is : (honest : Type 0) (line : ℕ) (x : Waiting Query) → AreKept honest w (products_of s) (cells_of s) → find (λ q. q.line == line) w.waiting ≡ Some x → x.query ≡ by_first
  by_first_is honest line x k e = all_found (λ (q : Waiting Query). q.query ≡ by_first) (λ (q : Waiting Query). q.line == line) w.waiting x k.waiting e

-- ---- ends of queries

module _ (w : World Query) (s : FixedState) (i : StandsFor w s) (line : ℕ) where
  pub flight_listed : (b : Bool) → b ≡ list_any (λ q. q.line == line) s.asked.items → (b ≡ true) ↔ IsInFlight w line
  flight_listed b e = (λ (h : b ≡ true). sym (e ∙ asked_same w s i line) ∙ h, λ (h : IsInFlight w line). e ∙ (asked_same w s i line ∙ h))

  pub no_flight : find (λ q. q.line == line) s.asked.items ≡ None → IsInFlight w line → ⊥
  no_flight e h =
      let none : list_any (λ q. q.line == line) s.asked.items ≡ false = found_any (λ (q : QueryInFlight). q.line == line) s.asked.items ∙ ap is_some e in
      no (sym none ∙ (asked_same w s i line ∙ h))
    where
      no : false ≡ true → ⊥
      no f = cc

  pub no_end : (out : QueryOut) → find (λ q. q.line == line) s.asked.items ≡ None → (false ≡ true) ↔ (IsInFlight w line × IsFresh w (QueryEnds line out))
  no_end out e = (λ (h : false ≡ true). absurd (no h), λ (h : IsInFlight w line × IsFresh w (QueryEnds line out)). absurd (no_flight e h.0))
    where
      no : false ≡ true → ⊥
      no f = cc

  module _ (q : QueryInFlight) (e : find (λ q. q.line == line) s.asked.items ≡ Some q) where
    pub in_flight_here : IsInFlight w line
    in_flight_here = sym (asked_same w s i line) ∙ (found_any (λ (x : QueryInFlight). x.line == line) s.asked.items ∙ ap is_some e)

    pub memory_here : (true ≡ true) ↔ (IsInFlight w line × IsFresh w (QueryEnds line NoAnswer))
    memory_here = (λ (h : true ≡ true). (in_flight_here, tt), λ (h : IsInFlight w line × IsFresh w (QueryEnds line NoAnswer)). refl)

    told_by : (o : Option (Asked Query)) → find (λ x. x.waiting.line == line) w.asked ≡ o → option_map in_flight_of o ≡ Some q → (version answered : ℕ) → answered ≡ answered_in s.sessions.items q.session
        → IsLawful w o version ↔ ((q.at_command ≤ version) × (q.at_take ≤ version) × (answered ≤ version) × (version ≤ s.ready.set.version))
    told_by None f g version answered a = absurd (no g)
      where
        no : None ≡ Some q → ⊥
        no k = cc
    told_by (Some x) f g version answered a =
        let same : in_flight_of x ≡ q = some_eq (in_flight_of x) q g in
        let command : x.waiting.at_command ≡ q.at_command = ap (λ (y : QueryInFlight). y.at_command) same in
        let take : x.at_take ≡ q.at_take = ap (λ (y : QueryInFlight). y.at_take) same in
        let last : w.answered x.waiting.session ≡ answered = i.answered x.waiting.session ∙ (ap (λ (y : QueryInFlight). answered_in s.sessions.items y.session) same ∙ sym a) in
        let version_is : number w ≡ s.ready.set.version = i.version in
        (λ h. (omega (arith, h.0), omega (arith, h.1), omega (arith, h.2), omega (arith, h.3)), λ h. (omega (arith, h.0), omega (arith, h.1), omega (arith, h.2), omega (arith, h.3)))

    pub lawful_here : (version answered : ℕ) (b : Bool) → answered ≡ answered_in s.sessions.items q.session
        → (b ≡ true) ↔ ((q.at_command ≤ version) × (q.at_take ≤ version) × (answered ≤ version) × (version ≤ s.ready.set.version)) → (b ≡ true) ↔ (IsInFlight w line × IsFresh w (QueryEnds line (Answered version)))
    lawful_here version answered b a h =
        let told = told_by (find (λ x. x.waiting.line == line) w.asked) refl (flight_same w s i line ∙ e) version answered a in
        (λ (f : b ≡ true). (in_flight_here, told.1 (h.0 f)), λ (f : IsInFlight w line × IsFresh w (QueryEnds line (Answered version))). h.1 (told.0 f.1))

-- ---- claims that are listed

counted_any : (job attempt : ℕ) (claims : List (ℕ × ℕ)) → list_any (λ claim. (claim.0 == job) && (claim.1 == attempt)) claims ≡ true → 0 < claim_count job attempt claims
counted_any job attempt [] e = cc
counted_any job attempt (claim ∷ claims) e = by_test ((claim.0 == job) && (claim.1 == attempt)) (counted_any job attempt claims) e (sum_by-cons (λ other. cond ((other.0 == job) && (other.1 == attempt)) 1 0) claim claims)
  where
    by_test : (t : Bool) → (list_any (λ other. (other.0 == job) && (other.1 == attempt)) claims ≡ true → 0 < claim_count job attempt claims) → t || list_any (λ other. (other.0 == job) && (other.1 == attempt)) claims ≡ true
        → claim_count job attempt (claim ∷ claims) ≡ cond t 1 0 + claim_count job attempt claims → 0 < claim_count job attempt (claim ∷ claims)
    by_test true rest f count = omega (arith, count)
    by_test false rest f count = omega (arith, count, rest f)

any_counted : (job attempt : ℕ) (claims : List (ℕ × ℕ)) → 0 < claim_count job attempt claims → list_any (λ claim. (claim.0 == job) && (claim.1 == attempt)) claims ≡ true
any_counted job attempt [] h = absurd (omega (arith, h))
any_counted job attempt (claim ∷ claims) h = by_test ((claim.0 == job) && (claim.1 == attempt)) (any_counted job attempt claims) (sum_by-cons (λ other. cond ((other.0 == job) && (other.1 == attempt)) 1 0) claim claims)
  where
    by_test : (t : Bool) → (0 < claim_count job attempt claims → list_any (λ other. (other.0 == job) && (other.1 == attempt)) claims ≡ true)
        → claim_count job attempt (claim ∷ claims) ≡ cond t 1 0 + claim_count job attempt claims → t || list_any (λ other. (other.0 == job) && (other.1 == attempt)) claims ≡ true
    by_test true rest count = refl
    by_test false rest count = rest (omega (arith, count, h))

module _ (w : World Query) (s : FixedState) (i : StandsFor w s) where
  claims_same : (job attempt : ℕ) → list_any (λ claim. (claim.job == job) && (claim.attempt == attempt)) s.steps.items ≡ list_any (λ claim. (claim.0 == job) && (claim.1 == attempt)) w.steps
  claims_same job attempt =
      sym (ap (list_any (λ (claim : ℕ × ℕ). (claim.0 == job) && (claim.1 == attempt))) i.steps ∙ any_map claim_of (λ (claim : ℕ × ℕ). (claim.0 == job) && (claim.1 == attempt)) s.steps.items)

  pub claim_listed : (job attempt : ℕ) (b : Bool) → b ≡ list_any (λ claim. (claim.job == job) && (claim.attempt == attempt)) s.steps.items → (b ≡ true) ↔ (0 < claim_count job attempt w.steps)
  claim_listed job attempt b e =
      (λ (h : b ≡ true). counted_any job attempt w.steps (sym (e ∙ claims_same job attempt) ∙ h), λ (h : 0 < claim_count job attempt w.steps). e ∙ (claims_same job attempt ∙ any_counted job attempt w.steps h))

-- ---- cells of a ready set

module _ (honest : Type 0) where
  ready_fits : (set : ReadySet) (cells : List (List Cell)) → EachFits (IsReadyKept honest) set cells → AllByRecursion (λ segment. AllByRecursion FitsSnapshot segment.origin) set
  ready_fits [] cells k = tt
  ready_fits (segment ∷ set) [] k = absurd k
  ready_fits (segment ∷ set) (first ∷ cells) k = (k.0.fits, ready_fits set cells k.1)

  ready_bases : (set : ReadySet) (cells : List (List Cell)) → honest → EachFits (IsReadyKept honest) set cells → map base_of_segment set ≡ cells
  ready_bases [] [] h k = refl
  ready_bases [] (first ∷ cells) h k = absurd k
  ready_bases (segment ∷ set) [] h k = absurd k
  ready_bases (segment ∷ set) (first ∷ cells) h k = ap (λ (rest : List (List Cell)). base_of_segment segment ∷ rest) (ready_bases set cells h k.1) ∙ ap (λ (base : List Cell). base ∷ cells) (k.0.made h)

  no_bases : (set : ReadySet) (cells : List (List Cell)) → set ≡ [] → EachFits (IsReadyKept honest) set cells → map base_of_segment set ≡ cells
  no_bases [] [] e k = refl
  no_bases [] (first ∷ cells) e k = absurd k
  no_bases (segment ∷ set) cells e k = cc

  pub cells_here : (set : ReadySet) (cells : List (List Cell)) → EachFits (IsReadyKept honest) set cells → honest ⊎ (set ≡ []) → AreCellsOf set cells
  cells_here set cells k (inl h) = record { fits = ready_fits set cells k; bases = ready_bases set cells h k }
  cells_here set cells k (inr e) = record { fits = ready_fits set cells k; bases = no_bases set cells e k }
