-- Places in lists, numbers that rise, claims and queries that are taken out.
use Rattle.std.proofs.Common.{◌≡◌, ◌≢◌, ℕ, zero, suc, ◌+◌, ◌<◌, ◌≤◌, Bool, true, false, cond, not, ◌&&◌, ◌||◌, ◌==◌, Option, Some, None, Result, Ok, Err, List, [], ◌∷◌, ◌++◌, length, map, set, get_or, slice_get, take, All, IfSome, OnErr, refl, sym, ap, ◌∙◌, subst, arith}
use Rattle.std.specs.Prelude.{filter, find, option_map, position, nat_lt}
use Rattle.std.specs.List.{list_any, remove, position_or_len}
use Rattle.std.proofs.lemmas.Bool.{eqb-true, eq-eqb, ne_eqb}
use Rattle.std.proofs.lemmas.Bool.Decides.{nat_tests}
use Rattle.std.proofs.lemmas.List.Quantifiers.{position-Some}
use Rattle.std.proofs.lemmas.Option.{get_or_from_slice_get}
use Rattle.run_history.proofs.Lists.{cond_at_true, cond_at_false}
use Rattle.run_history.specs.Steps.{answered_as, without_claim}
use Rattle.run_history.specs.declared.event.QueryOut.{QueryOut}
use Rattle.run_history.specs.declared.event.QueryOut.TheVariants.{Answered, Memory}
use Rattle.run_history.specs.Cubes.{Rows}
use Rattle.run_history.specs.Histories.{IsNextOfSession}
use Rattle.run_history.specs.World.{Asked, Waiting, World}
use Rattle.run_state.specs.States.{IsStateOf, answered_in, claim_of, in_flight_of, waiting_of}
use Rattle.run_state.specs.Numbered.{NumberedSet}
use Rattle.run_state.specs.Orderly.{AreListed, AreRising, has_session}
use Rattle.run_state.specs.Orders.{is_asking}
use Rattle.run_state.specs.declared.parts.Claim.{Claim}
use Rattle.run_state.specs.declared.parts.QueryInFlight.{QueryInFlight}
use Rattle.run_state.specs.declared.parts.RunState.{RunState}
use Rattle.run_state.specs.declared.parts.Session.{Session}
use Rattle.run_state.specs.declared.parts.WaitingQuery.{WaitingQuery}

pub some_eq : {A : Type 0} (x y : A) → Some x ≡ Some y → x ≡ y
some_eq x y h = cc

-- an item that is changed, where the change isn't seen
pub map_set_same : {A B : Type 0} (f : A → B) (xs : List A) (i : ℕ) (x y : A) → slice_get xs i ≡ Some x → f y ≡ f x → map f (set xs i y) ≡ map f xs
map_set_same f [] i x y e h = refl
map_set_same f (z ∷ xs) zero x y e h = ap (λ b. b ∷ map f xs) (h ∙ ap f (sym (some_eq z x e)))
map_set_same f (z ∷ xs) (suc i) x y e h = ap (λ l. f z ∷ l) (map_set_same f xs i x y e h)

pub get_set : {A : Type 0} (xs : List A) (i : ℕ) (x y : A) → slice_get xs i ≡ Some x → slice_get (set xs i y) i ≡ Some y
get_set [] i x y e = cc
get_set (z ∷ xs) zero x y e = refl
get_set (z ∷ xs) (suc i) x y e = get_set xs i x y e

pub find_map : {A B : Type 0} (f : A → B) (test : B → Bool) (xs : List A) → option_map f (find (λ x. test (f x)) xs) ≡ find test (map f xs)
find_map f test [] = refl
find_map f test (x ∷ xs) = by_test (test (f x)) (find (λ y. test (f y)) xs) (find_map f test xs)
  where
    by_test : (b : Bool) (rest : Option _) → option_map f rest ≡ find test (map f xs) → option_map f (cond b (Some x) rest) ≡ cond b (Some (f x)) (find test (map f xs))
    by_test true rest h = refl
    by_test false rest h = h

pub filter_map : {A B : Type 0} (f : A → B) (test : B → Bool) (xs : List A) → map f (filter (λ x. test (f x)) xs) ≡ filter test (map f xs)
filter_map f test [] = refl
filter_map f test (x ∷ xs) = by_test (test (f x)) (filter (λ y. test (f y)) xs) (filter_map f test xs)
  where
    by_test : (b : Bool) (rest : List _) → map f rest ≡ filter test (map f xs) → map f (cond b (x ∷ rest) rest) ≡ cond b (f x ∷ filter test (map f xs)) (filter test (map f xs))
    by_test true rest h = ap (λ l. f x ∷ l) h
    by_test false rest h = h

pub any_map : {A B : Type 0} (f : A → B) (test : B → Bool) (xs : List A) → list_any test (map f xs) ≡ list_any (λ x. test (f x)) xs
any_map f test [] = refl
any_map f test (x ∷ xs) = ap (λ b. test (f x) || b) (any_map f test xs)

-- ---- numbers that rise

pub rising_more : (low high more : ℕ) (ns : List ℕ) → AreRising low high ns → high ≤ more → AreRising low more ns
rising_more low high more [] h le = let k : low ≤ high = h in omega arith
rising_more low high more (n ∷ ns) h le = (h.0, rising_more n high more ns h.1 le)

pub rising_less : (low less high : ℕ) (ns : List ℕ) → AreRising low high ns → less ≤ low → AreRising less high ns
rising_less low less high [] h le = let k : low ≤ high = h in omega arith
rising_less low less high (n ∷ ns) h le = (let k : low < n = h.0 in omega arith, h.1)

pub rising_push : (low high n : ℕ) (ns : List ℕ) → AreRising low high ns → high < n → AreRising low n (ns ++ n ∷ [])
rising_push low high n [] h lt = (let k : low ≤ high = h in omega arith, omega arith)
rising_push low high n (m ∷ ns) h lt = (h.0, rising_push m high n ns h.1 lt)

-- ---- waiting queries

module _ {Q : Type 0} where
  abbrev lines : List (WaitingQuery Q) → List ℕ
  lines qs = map (λ q. q.line) qs

  above : (low high : ℕ) (qs : List (WaitingQuery Q)) (i : ℕ) (q : WaitingQuery Q) → AreRising low high (lines qs) → slice_get qs i ≡ Some q → low < q.line
  above low high [] i q h e = cc
  above low high (x ∷ qs) zero q h e = subst (λ (y : WaitingQuery Q). low < y.line) (some_eq x q e) h.0
  above low high (x ∷ qs) (suc i) q h e = let k : low < x.line = h.0 in omega (arith, above x.line high qs i q h.1 e)

  -- a waiting query is found by its line
  pub query_found : (low high : ℕ) (qs : List (WaitingQuery Q)) (i : ℕ) (q : WaitingQuery Q) → AreRising low high (lines qs) → slice_get qs i ≡ Some q
      → find (λ other. other.line == q.line) (map waiting_of qs) ≡ Some (waiting_of q)
  query_found low high [] i q h e = cc
  query_found low high (x ∷ qs) zero q h e =
      cond_at_true (x.line == q.line) (Some (waiting_of x)) (find (λ other. other.line == q.line) (map waiting_of qs)) (eq-eqb x.line q.line (ap (λ (y : WaitingQuery Q). y.line) (some_eq x q e)))
      ∙ ap (λ (y : WaitingQuery Q). Some (waiting_of y)) (some_eq x q e)
  query_found low high (x ∷ qs) (suc i) q h e =
      cond_at_false (x.line == q.line) (Some (waiting_of x)) (find (λ other. other.line == q.line) (map waiting_of qs)) (ne_eqb x.line q.line (λ same. omega (arith, above x.line high qs i q h.1 e)))
      ∙ query_found x.line high qs i q h.1 e

  others_stay : (low high n : ℕ) (qs : List (WaitingQuery Q)) → AreRising low high (lines qs) → n ≤ low → filter (λ other. not (other.line == n)) (map waiting_of qs) ≡ map waiting_of qs
  others_stay low high n [] h le = refl
  others_stay low high n (x ∷ qs) h le =
      let k : low < x.line = h.0 in
      cond_at_true (not (x.line == n)) (waiting_of x ∷ filter (λ other. not (other.line == n)) (map waiting_of qs)) (filter (λ other. not (other.line == n)) (map waiting_of qs)) (ap not (ne_eqb x.line n (λ same. omega arith)))
      ∙ ap (λ l. waiting_of x ∷ l) (others_stay x.line high n qs h.1 (omega arith))

  -- and is taken out by it
  pub query_out : (low high : ℕ) (qs : List (WaitingQuery Q)) (i : ℕ) (q : WaitingQuery Q) → AreRising low high (lines qs) → slice_get qs i ≡ Some q
      → filter (λ other. not (other.line == q.line)) (map waiting_of qs) ≡ map waiting_of (remove qs i)
  query_out low high [] i q h e = cc
  query_out low high (x ∷ qs) zero q h e =
      cond_at_false (not (x.line == q.line)) (waiting_of x ∷ filter (λ other. not (other.line == q.line)) (map waiting_of qs)) (filter (λ other. not (other.line == q.line)) (map waiting_of qs))
      (ap not (eq-eqb x.line q.line (ap (λ (y : WaitingQuery Q). y.line) (some_eq x q e))))
      ∙ others_stay x.line high q.line qs h.1 (let same : x.line ≡ q.line = ap (λ (y : WaitingQuery Q). y.line) (some_eq x q e) in omega arith)
  query_out low high (x ∷ qs) (suc i) q h e =
      cond_at_true (not (x.line == q.line)) (waiting_of x ∷ filter (λ other. not (other.line == q.line)) (map waiting_of qs)) (filter (λ other. not (other.line == q.line)) (map waiting_of qs))
      (ap not (ne_eqb x.line q.line (λ same. omega (arith, above x.line high qs i q h.1 e))))
      ∙ ap (λ l. waiting_of x ∷ l) (query_out x.line high qs i q h.1 e)

  pub rising_without : (low high : ℕ) (qs : List (WaitingQuery Q)) (i : ℕ) (q : WaitingQuery Q) → AreRising low high (lines qs) → slice_get qs i ≡ Some q → AreRising low high (lines (remove qs i))
  rising_without low high [] i q h e = cc
  rising_without low high (x ∷ qs) zero q h e = let k : low < x.line = h.0 in rising_less x.line low high (lines qs) h.1 (omega arith)
  rising_without low high (x ∷ qs) (suc i) q h e = (h.0, rising_without x.line high qs i q h.1 e)

  pub listed_without : (sessions : List Session) (qs : List (WaitingQuery Q)) (i : ℕ) (q : WaitingQuery Q) → AreListed sessions (map (λ q. q.session) qs) → slice_get qs i ≡ Some q
      → AreListed sessions (map (λ q. q.session) (remove qs i))
  listed_without sessions [] i q h e = cc
  listed_without sessions (x ∷ qs) zero q h e = h.1
  listed_without sessions (x ∷ qs) (suc i) q h e = (h.0, listed_without sessions qs i q h.1 e)

  pub listed_at : (sessions : List Session) (qs : List (WaitingQuery Q)) (i : ℕ) (q : WaitingQuery Q) → AreListed sessions (map (λ q. q.session) qs) → slice_get qs i ≡ Some q → has_session sessions q.session ≡ true
  listed_at sessions [] i q h e = cc
  listed_at sessions (x ∷ qs) zero q h e = subst (λ (y : WaitingQuery Q). has_session sessions y.session ≡ true) (some_eq x q e) h.0
  listed_at sessions (x ∷ qs) (suc i) q h e = listed_at sessions qs i q h.1 e

  -- the first query of a session, where the earlier ones are of others
  pub first_of_session : (qs : List (WaitingQuery Q)) (i : ℕ) (q : WaitingQuery Q) → slice_get qs i ≡ Some q → ((k : ℕ) (x : WaitingQuery Q) → k < i → slice_get qs k ≡ Some x → x.session ≢ q.session)
      → find (λ first. first.session == q.session) (map waiting_of qs) ≡ Some (waiting_of q)
  first_of_session [] i q e h = cc
  first_of_session (x ∷ qs) zero q e h =
      cond_at_true (x.session == q.session) (Some (waiting_of x)) (find (λ first. first.session == q.session) (map waiting_of qs)) (eq-eqb x.session q.session (ap (λ (y : WaitingQuery Q). y.session) (some_eq x q e)))
      ∙ ap (λ (y : WaitingQuery Q). Some (waiting_of y)) (some_eq x q e)
  first_of_session (x ∷ qs) (suc i) q e h =
      cond_at_false (x.session == q.session) (Some (waiting_of x)) (find (λ first. first.session == q.session) (map waiting_of qs)) (ne_eqb x.session q.session (h 0 x (omega arith) refl))
      ∙ first_of_session qs i q e (λ k y lt g. h (suc k) y (omega arith) g)

-- ---- sessions

pub listed_push : (sessions : List Session) (ns : List ℕ) (n : ℕ) → AreListed sessions ns → has_session sessions n ≡ true → AreListed sessions (ns ++ n ∷ [])
listed_push sessions [] n h e = (e, tt)
listed_push sessions (m ∷ ns) n h e = (h.0, listed_push sessions ns n h.1 e)

pub listed_kept : (sessions : List Session) (qs : List QueryInFlight) (test : QueryInFlight → Bool) → AreListed sessions (map (λ q. q.session) qs) → AreListed sessions (map (λ q. q.session) (filter test qs))
listed_kept sessions [] test h = tt
listed_kept sessions (x ∷ qs) test h = by_test (test x) (listed_kept sessions qs test h.1)
  where
    by_test : (b : Bool) → AreListed sessions (map (λ q. q.session) (filter test qs)) → AreListed sessions (map (λ q. q.session) (cond b (x ∷ filter test qs) (filter test qs)))
    by_test true rest = (h.0, rest)
    by_test false rest = rest

pub listed_found : (sessions : List Session) (qs : List QueryInFlight) (test : QueryInFlight → Bool) (q : QueryInFlight) → AreListed sessions (map (λ q. q.session) qs) → find test qs ≡ Some q → has_session sessions q.session ≡ true
listed_found sessions [] test q h e = cc
listed_found sessions (x ∷ qs) test q h e = by_test (test x) (listed_found sessions qs test q h.1) e
  where
    by_test : (b : Bool) → (find test qs ≡ Some q → has_session sessions q.session ≡ true) → cond b (Some x) (find test qs) ≡ Some q → has_session sessions q.session ≡ true
    by_test true rest e = subst (λ (y : QueryInFlight). has_session sessions y.session ≡ true) (some_eq x q e) h.0
    by_test false rest e = rest e

or_right : (a b : Bool) → b ≡ true → a || b ≡ true
or_right true b h = refl
or_right false b h = h

has_more : (sessions : List Session) (new : Session) (n : ℕ) → has_session sessions n ≡ true → has_session (sessions ++ new ∷ []) n ≡ true
has_more [] new n h = cc
has_more (s ∷ sessions) new n h = by_test (s.session == n) (has_more sessions new n) h
  where
    by_test : (b : Bool) → (has_session sessions n ≡ true → has_session (sessions ++ new ∷ []) n ≡ true) → b || has_session sessions n ≡ true → b || has_session (sessions ++ new ∷ []) n ≡ true
    by_test true rest h = refl
    by_test false rest h = rest h

pub listed_more : (sessions : List Session) (new : Session) (ns : List ℕ) → AreListed sessions ns → AreListed (sessions ++ new ∷ []) ns
listed_more sessions new [] h = tt
listed_more sessions new (n ∷ ns) h = (has_more sessions new n h.0, listed_more sessions new ns h.1)

pub has_last : (sessions : List Session) (new : Session) → has_session (sessions ++ new ∷ []) new.session ≡ true
has_last [] new = ap (λ b. b || false) (eq-eqb new.session new.session refl)
has_last (s ∷ sessions) new = or_right (s.session == new.session) (has_session (sessions ++ new ∷ []) new.session) (has_last sessions new)

-- a session without an answer is listed
pub answered_more : (sessions : List Session) (session other : ℕ) → answered_in (sessions ++ record { session = session; answered = 0 } ∷ []) other ≡ answered_in sessions other
answered_more [] session other = by_test (session == other)
  where
    by_test : (b : Bool) → let zero_of : ℕ = cond b 0 0 in zero_of ≡ 0
    by_test true = refl
    by_test false = refl
answered_more (s ∷ sessions) session other = ap (λ (n : ℕ). cond (s.session == other) s.answered n) (answered_more sessions session other)

-- ---- claims

abbrev pub is_it : ℕ → ℕ → Claim → Bool
is_it job attempt claim = (claim.job == job) && (claim.attempt == attempt)

pub claim_out : (job attempt : ℕ) (cs : List Claim) (i : ℕ) (d : Claim) → i < length cs → is_it job attempt (get_or cs i d) ≡ true → ((k : ℕ) → k < i → is_it job attempt (get_or cs k d) ≡ false)
    → without_claim job attempt (map claim_of cs) ≡ map claim_of (remove cs i)
claim_out job attempt [] i d lt here before = absurd (omega arith)
claim_out job attempt (c ∷ cs) zero d lt here before = cond_at_true (is_it job attempt c) (map claim_of cs) (claim_of c ∷ without_claim job attempt (map claim_of cs)) here
claim_out job attempt (c ∷ cs) (suc i) d lt here before =
    cond_at_false (is_it job attempt c) (map claim_of cs) (claim_of c ∷ without_claim job attempt (map claim_of cs)) (before 0 (omega arith))
    ∙ ap (λ l. claim_of c ∷ l) (claim_out job attempt cs i d (omega arith) here (λ k h. before (suc k) (omega arith)))

pub claim_absent : (job attempt : ℕ) (cs : List Claim) → length cs ≤ position_or_len (is_it job attempt) cs → without_claim job attempt (map claim_of cs) ≡ map claim_of cs
claim_absent job attempt [] h = refl
claim_absent job attempt (c ∷ cs) h = by_test (is_it job attempt c) (claim_absent job attempt cs) h
  where
    by_test : (b : Bool) → (length cs ≤ position_or_len (is_it job attempt) cs → without_claim job attempt (map claim_of cs) ≡ map claim_of cs) → length (c ∷ cs) ≤ cond (not b) (1 + position_or_len (is_it job attempt) cs) 0 → cond b (map claim_of cs) (claim_of c ∷ without_claim job attempt (map claim_of cs)) ≡ map claim_of (c ∷ cs)
    by_test true rest h = absurd (omega arith)
    by_test false rest h = ap (λ l. claim_of c ∷ l) (rest (omega arith))

pub none_there : (n m : ℕ) → cond (nat_lt n m) (Some n) None ≡ None → m ≤ n
none_there n m h = by_test (nat_lt n m) refl h
  where
    by_test : (b : Bool) → nat_lt n m ≡ b → cond b (Some n) None ≡ None → m ≤ n
    by_test true e h = cc
    by_test false e h = grind (arith, nat_tests)

-- ---- answers of sessions

cond_swap : (a b : Bool) (x v z : ℕ) → (a ≡ true → b ≡ true → ⊥) → cond a x (cond b v z) ≡ cond b v (cond a x z)
cond_swap true true x v z h = absurd (h refl refl)
cond_swap true false x v z h = refl
cond_swap false b x v z h = refl

same_test : (a b : ℕ) → (a == b) ≡ (b == a)
same_test a b = by_test (a == b) refl
  where
    by_test : (t : Bool) → (a == b) ≡ t → (a == b) ≡ (b == a)
    by_test true e = e ∙ sym (eq-eqb b a (sym (eqb-true a b e)))
    by_test false e = e ∙ sym (ne_eqb b a (λ h. true_false (sym (eq-eqb a b (sym h)) ∙ e)))
      where
        true_false : true ≡ false → ⊥
        true_false h = cc

head_answer : (a b : Bool) (version x rest : ℕ) → a ≡ b → cond a version rest ≡ cond b version (cond a x rest)
head_answer true true version x rest e = refl
head_answer false false version x rest e = refl
head_answer true false version x rest e = cc
head_answer false true version x rest e = cc

-- the first entry of a session gets another answer
pub answered_set : (ss : List Session) (i session version other : ℕ) (d : Session) → i < length ss → (get_or ss i d).session == session ≡ true → ((k : ℕ) → k < i → (get_or ss k d).session == session ≡ false)
    → answered_in (set ss i (record { session = session; answered = version })) other ≡ cond (other == session) version (answered_in ss other)
answered_set [] i session version other d lt here before = absurd (omega arith)
answered_set (s ∷ ss) zero session version other d lt here before =
    head_answer (session == other) (other == session) version s.answered (answered_in ss other) (same_test session other)
    ∙ ap (λ (n : ℕ). cond (other == session) version (cond (n == other) s.answered (answered_in ss other))) (sym (eqb-true s.session session here))
answered_set (s ∷ ss) (suc i) session version other d lt here before =
    ap (λ (n : ℕ). cond (s.session == other) s.answered n) (answered_set ss i session version other d (omega arith) here (λ k h. before (suc k) (omega arith)))
    ∙ cond_swap (s.session == other) (other == session) s.answered version (answered_in ss other) (λ a b. clash (eqb-true s.session other a ∙ eqb-true other session b))
  where
    clash : s.session ≡ session → ⊥
    clash e = true_not_false (sym (eq-eqb s.session session e) ∙ before 0 (omega arith))
      where
        true_not_false : true ≡ false → ⊥
        true_not_false h = cc

has_set : (ss : List Session) (i n : ℕ) (d y : Session) → i < length ss → y.session ≡ (get_or ss i d).session → has_session (set ss i y) n ≡ has_session ss n
has_set [] i n d y lt e = absurd (omega arith)
has_set (s ∷ ss) zero n d y lt e = ap (λ (m : ℕ). (m == n) || has_session ss n) e
has_set (s ∷ ss) (suc i) n d y lt e = ap (λ b. (s.session == n) || b) (has_set ss i n d y (omega arith) e)

pub listed_set : (ss : List Session) (i : ℕ) (d y : Session) (ns : List ℕ) → i < length ss → y.session ≡ (get_or ss i d).session → AreListed ss ns → AreListed (set ss i y) ns
listed_set ss i d y [] lt e h = tt
listed_set ss i d y (n ∷ ns) lt e h = (has_set ss i n d y lt e ∙ h.0, listed_set ss i d y ns lt e h.1)

-- a session that is listed has a place
pub place_none : (ss : List Session) (session : ℕ) → length ss ≤ position_or_len (λ (s : Session). s.session == session) ss → has_session ss session ≡ false
place_none [] session h = refl
place_none (s ∷ ss) session h = by_test (s.session == session) (place_none ss session) h
  where
    by_test : (b : Bool) → (length ss ≤ position_or_len (λ (t : Session). t.session == session) ss → has_session ss session ≡ false)
        → length (s ∷ ss) ≤ cond (not b) (1 + position_or_len (λ (t : Session). t.session == session) ss) 0 → b || has_session ss session ≡ false
    by_test true rest h = absurd (omega arith)
    by_test false rest h = rest (omega arith)

-- ---- queries in flight

pub listed_if : (sessions : List Session) (qs : List QueryInFlight) (test : QueryInFlight → Bool) → AreListed sessions (map (λ q. q.session) qs) → IfSome (find test qs) (λ q. has_session sessions q.session ≡ true)
listed_if sessions qs test h = by_found (find test qs) refl
  where
    by_found : (o : Option QueryInFlight) → find test qs ≡ o → IfSome o (λ q. has_session sessions q.session ≡ true)
    by_found None e = tt
    by_found (Some q) e = listed_found sessions qs test q h e

pub record Flight {Q : Type 0} (asked : List (Asked Q)) (qs : List QueryInFlight) (line : ℕ) : Type 0 where
  pub query : Asked Q
  pub world : find (λ q. q.waiting.line == line) asked ≡ Some query
  pub kept : find (λ q. q.line == line) qs ≡ Some (in_flight_of query)

pub flight_found : {Q : Type 0} (asked : List (Asked Q)) (qs : List QueryInFlight) (line : ℕ) → map in_flight_of asked ≡ qs → list_any (λ q. q.line == line) qs ≡ true → Flight asked qs line
flight_found asked qs line e h = by_found (find (λ q. q.waiting.line == line) asked) refl
  where
    told : option_map in_flight_of (find (λ q. q.waiting.line == line) asked) ≡ find (λ q. q.line == line) qs
    told = find_map in_flight_of (λ q. q.line == line) asked ∙ ap (find (λ q. q.line == line)) e

    by_found : (o : Option (Asked _)) → find (λ q. q.waiting.line == line) asked ≡ o → Flight asked qs line
    by_found None f = absurd (none_any qs (sym told ∙ ap (option_map in_flight_of) f) h)
      where
        none_any : (xs : List QueryInFlight) → find (λ q. q.line == line) xs ≡ None → list_any (λ q. q.line == line) xs ≡ true → ⊥
        none_any [] a b = cc
        none_any (x ∷ xs) a b = by_test (x.line == line) (none_any xs) a b
          where
            by_test : (t : Bool) → (find (λ q. q.line == line) xs ≡ None → list_any (λ q. q.line == line) xs ≡ true → ⊥) → cond t (Some x) (find (λ q. q.line == line) xs) ≡ None → t || list_any (λ q. q.line == line) xs ≡ true → ⊥
            by_test true rest a b = cc
            by_test false rest a b = rest a b
    by_found (Some q) f = record { query = q; world = f; kept = sym told ∙ ap (option_map in_flight_of) f }

pub answered_alike : (out : QueryOut) (session : ℕ) (f g : ℕ → ℕ) (other : ℕ) → f other ≡ g other → answered_as out session f other ≡ answered_as out session g other
answered_alike (Answered version) session f g other e = ap (λ (n : ℕ). cond (other == session) version n) e
answered_alike Memory session f g other e = e

-- ---- lists that are read along

map_next : {A B : Type 0} (f : A → B) (xs : List A) (i : ℕ) (x : A) → slice_get xs i ≡ Some x → map f (take (suc i) xs) ≡ map f (take i xs) ++ f x ∷ []
map_next f [] i x e = cc
map_next f (y ∷ xs) zero x e = ap (λ z. f z ∷ []) (some_eq y x e)
map_next f (y ∷ xs) (suc i) x e = ap (λ l. f y ∷ l) (map_next f xs i x e)

pub map_more : {A B : Type 0} (f : A → B) (xs : List A) (i : ℕ) (x : A) → slice_get xs i ≡ Some x → map f (take (i + 1) xs) ≡ map f (take i xs) ++ f x ∷ []
map_more f xs i x e = let next : i + 1 ≡ suc i = omega arith in ap (λ (n : ℕ). map f (take n xs)) next ∙ map_next f xs i x e

pub take_whole : {A : Type 0} (xs : List A) → take (length xs) xs ≡ xs
take_whole [] = refl
take_whole (x ∷ xs) = ap (λ l. x ∷ l) (take_whole xs)

pub all_at : {A : Type 0} (P : A → Type 0) (xs : List A) (i : ℕ) → All P xs → IfSome (slice_get xs i) P
all_at P [] i h = tt
all_at P (x ∷ xs) zero h = h 0 x (omega arith)
all_at P (x ∷ xs) (suc i) h = all_at P xs i (λ k d lt. h (suc k) d (omega arith))

pub on_err : {A E : Type 0} (r : Result A E) (P : Type 0) → P → OnErr r P
on_err (Ok x) P h = tt
on_err (Err e) P h = h

-- ---- queries that are accepted, chosen and taken

module _ {Q : Type 0} where
  abbrev pub waits : ℕ → ℕ → Q → ℕ → Waiting Q
  waits line session query at_command = record { line = line; session = session; query = query; at_command = at_command }

  abbrev pub flies : WaitingQuery Q → ℕ → QueryInFlight
  flies q at_take = record { line = q.line; session = q.session; at_command = q.at_command; at_take = at_take }

double_not : (b : Bool) → not b ≡ false → b ≡ true
double_not true h = refl
double_not false h = cc

single_not : (b : Bool) → not b ≡ true → b ≡ false
single_not true h = cc
single_not false h = refl

module _ {T P R Q : Type 0} (rows : T → Rows) (ready_set : R → NumberedSet) (s : RunState T P R Q) where
  abbrev is_free : WaitingQuery Q → Bool
  is_free q = not (is_asking s.asked.items q.session)

  next_of : (place : ℕ) (q : WaitingQuery Q) (w : World Q) → position is_free s.waiting.items ≡ Some place → slice_get s.waiting.items place ≡ Some q → IsStateOf rows ready_set w s
      → IsNextOfSession w (find (λ other. other.line == q.line) w.waiting)
  next_of place q w found there i =
      subst (IsNextOfSession w) (sym (ap (find (λ other. other.line == q.line)) i.waiting ∙ query_found 0 s.line s.waiting.items place q s.rising there)) (
        ap (option_map (λ (first : Waiting Q). first.line)) (ap (find (λ (first : Waiting Q). first.session == q.session)) i.waiting ∙ first_of_session s.waiting.items place q there others),
        sym (any_map in_flight_of (λ (x : QueryInFlight). x.session == q.session) w.asked) ∙ (ap (list_any (λ (x : QueryInFlight). x.session == q.session)) i.asked ∙ free),
      )
    where
      facts : (d : WaitingQuery Q) → (place < length s.waiting.items) × (is_free (get_or s.waiting.items place d) ≡ true) × ((k : ℕ) → k < place → is_free (get_or s.waiting.items k d) ≡ false)
      facts d = position-Some is_free s.waiting.items place d found

      free : is_asking s.asked.items q.session ≡ false
      free = single_not (is_asking s.asked.items q.session) (subst (λ (x : WaitingQuery Q). is_free x ≡ true) (get_or_from_slice_get s.waiting.items place q q there) (facts q).1)

      others : (k : ℕ) (x : WaitingQuery Q) → k < place → slice_get s.waiting.items k ≡ Some x → x.session ≢ q.session
      others k x lt e same =
          clash (sym (double_not (is_asking s.asked.items x.session) (subst (λ (y : WaitingQuery Q). is_free y ≡ false) (get_or_from_slice_get s.waiting.items k x x e) ((facts x).2 k lt))) ∙ (ap (is_asking s.asked.items) same ∙ free))
        where
          clash : true ≡ false → ⊥
          clash h = cc

  pub next_found : (o : Option ℕ) → o ≡ position is_free s.waiting.items
      → IfSome o (λ place. (q : WaitingQuery Q) → slice_get s.waiting.items place ≡ Some q → (w : World Q) → IsStateOf rows ready_set w s → IsNextOfSession w (find (λ other. other.line == q.line) w.waiting))
  next_found None e = tt
  next_found (Some place) e = λ q there w i. next_of place q w (sym e) there i
