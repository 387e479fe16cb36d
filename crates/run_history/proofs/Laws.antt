-- One turn more at the end of a history; jobs, sets and claims read again.
use Rattle.std.proofs.Common.{◌≡◌, ◌≢◌, ℕ, zero, suc, ◌+◌, ◌-◌, ◌≤◌, ◌<◌, Bool, true, false, cond, ◌&&◌, ◌==◌, if◌then◌else◌, Option, Some, None, List, [], ◌∷◌, ◌++◌, length, fold, set, slice_get, refl, sym, ap, ◌∙◌, subst, arith, length-append, unwrap_or}
use Rattle.std.proofs.lemmas.Bool.{and_parts, eqb-true}
use Rattle.std.proofs.lemmas.List.Sums.{fold-append, sum_by-cons, sum_by_push}
use Rattle.run_history.specs.Commands.{Turn}
use Rattle.run_history.specs.Cubes.{CubeSemantics}
use Rattle.run_history.specs.Sets.{ReadySet}
use Rattle.run_history.specs.Steps.{step, world, with_job, with_set, without_claim}
use Rattle.run_history.specs.Histories.{Along, Allowed, claim_count}
use Rattle.run_history.specs.World.{Submitted, World, start, number, set_at, job_at}

-- ---- histories

module _ {Query Answer : Type 0} (cube : CubeSemantics Query Answer) where
  pub world-push : (workers : ℕ) (initial : ReadySet) (turns : List (Turn Query)) (turn : Turn Query) → world cube workers initial (turns ++ turn ∷ []) ≡ step cube (world cube workers initial turns) turn
  world-push workers initial turns turn = fold-append (step cube) (start workers (length cube.tables) initial) turns (turn ∷ [])

  pub Along-push : (P : World Query → Turn Query → Type 0) (w : World Query) (turns : List (Turn Query)) (turn : Turn Query) → Along cube P w turns
      → P (fold (step cube) w turns) turn → Along cube P w (turns ++ turn ∷ [])
  Along-push P w [] turn hs h = (h, tt)
  Along-push P w (first ∷ turns) turn hs h = (hs.0, Along-push P (step cube w first) turns turn hs.1 h)

  pub Along-front : (P : World Query → Turn Query → Type 0) (w : World Query) (turns : List (Turn Query)) (turn : Turn Query) → Along cube P w (turns ++ turn ∷ []) → Along cube P w turns
  Along-front P w [] turn h = tt
  Along-front P w (first ∷ turns) turn h = (h.0, Along-front P (step cube w first) turns turn h.1)

  pub Along-last : (P : World Query → Turn Query → Type 0) (w : World Query) (turns : List (Turn Query)) (turn : Turn Query) → Along cube P w (turns ++ turn ∷ [])
      → P (fold (step cube) w turns) turn
  Along-last P w [] turn h = h.0
  Along-last P w (first ∷ turns) turn h = Along-last P (step cube w first) turns turn h.1

  -- an invariant that each turn with P keeps holds of every world that a history with P all along reaches
  pub reached_along : (P : World Query → Turn Query → Type 0) (Inv : World Query → Type 0) → ((w : World Query) (turn : Turn Query) → P w turn → Inv w → Inv (step cube w turn))
      → (w : World Query) (turns : List (Turn Query)) → Inv w → Along cube P w turns → Inv (fold (step cube) w turns)
  reached_along P Inv keeps w [] i a = i
  reached_along P Inv keeps w (turn ∷ turns) i a = reached_along P Inv keeps (step cube w turn) turns (keeps w turn a.0 i) a.1

  -- and so over every legal history
  pub reached : (Inv : World Query → Type 0) → ((w : World Query) (turn : Turn Query) → Allowed w turn → Inv w → Inv (step cube w turn))
      → (w : World Query) (turns : List (Turn Query)) → Inv w → Along cube Allowed w turns → Inv (fold (step cube) w turns)
  reached Inv keeps w turns i a = reached_along Allowed Inv keeps w turns i a

  pub Along-both : (P Q : World Query → Turn Query → Type 0) (w : World Query) (turns : List (Turn Query)) → Along cube P w turns → Along cube Q w turns → Along cube (λ w turn. P w turn × Q w turn) w turns
  Along-both P Q w [] h k = tt
  Along-both P Q w (turn ∷ turns) h k = ((h.0, k.0), Along-both P Q (step cube w turn) turns h.1 k.1)

-- ---- claims

abbrev is_claim : ℕ → ℕ → ℕ × ℕ → Bool
is_claim job attempt claim = (claim.0 == job) && (claim.1 == attempt)

length_cut : (b : Bool) (n : ℕ) (claim : ℕ × ℕ) (claims rest : List (ℕ × ℕ)) → (0 < n → length rest + 1 ≡ length claims) → 0 < cond b 1 0 + n
    → length (cond b claims (claim ∷ rest)) + 1 ≡ length (claim ∷ claims)
length_cut true n claim claims rest ih h = omega arith
length_cut false n claim claims rest ih h = omega (arith, ih (omega arith))

pub length-without_claim : (job attempt : ℕ) (claims : List (ℕ × ℕ)) → 0 < claim_count job attempt claims → length (without_claim job attempt claims) + 1 ≡ length claims
length-without_claim job attempt [] h = absurd (omega arith)
length-without_claim job attempt (claim ∷ claims) h =
    length_cut (is_claim job attempt claim) (claim_count job attempt claims) claim claims (without_claim job attempt claims) (length-without_claim job attempt claims)
    (omega (arith, h, sum_by-cons (λ c. cond (is_claim job attempt c) 1 0) claim claims))

-- a claim more
pub claim_count-push : (job attempt : ℕ) (claims : List (ℕ × ℕ)) (claim : ℕ × ℕ)
    → claim_count job attempt (claims ++ claim ∷ []) ≡ claim_count job attempt claims + (if is_claim job attempt claim then 1 else 0)
claim_count-push job attempt claims claim = sum_by_push (λ c. cond (is_claim job attempt c) 1 0) claims claim

same_claim : (job attempt job2 attempt2 : ℕ) (claim : ℕ × ℕ) → is_claim job attempt claim ≡ true → is_claim job2 attempt2 claim ≡ is_claim job2 attempt2 (job, attempt)
same_claim job attempt job2 attempt2 claim h =
    let parts = and_parts (claim.0 == job) (claim.1 == attempt) h in
    ap (λ (x : ℕ). (x == job2) && (claim.1 == attempt2)) (eqb-true claim.0 job parts.0) ∙ ap (λ (x : ℕ). (job == job2) && (x == attempt2)) (eqb-true claim.1 attempt parts.1)

cut_count : (b : Bool) (job attempt job2 attempt2 : ℕ) (claim : ℕ × ℕ) (claims rest : List (ℕ × ℕ)) (n : ℕ) → b ≡ is_claim job attempt claim
    → (0 < n → claim_count job2 attempt2 rest + cond (is_claim job2 attempt2 (job, attempt)) 1 0 ≡ claim_count job2 attempt2 claims) → 0 < cond b 1 0 + n
    → claim_count job2 attempt2 (cond b claims (claim ∷ rest)) + cond (is_claim job2 attempt2 (job, attempt)) 1 0 ≡ cond (is_claim job2 attempt2 claim) 1 0 + claim_count job2 attempt2 claims
cut_count true job attempt job2 attempt2 claim claims rest n e ih h = rw (same_claim job attempt job2 attempt2 claim (sym e)) (omega arith)
cut_count false job attempt job2 attempt2 claim claims rest n e ih h =
    omega (arith, ih (omega arith), sum_by-cons (λ c. cond (is_claim job2 attempt2 c) 1 0) claim rest)

-- a claim less
pub claim_count-without : (job attempt job2 attempt2 : ℕ) (claims : List (ℕ × ℕ)) → 0 < claim_count job attempt claims
    → claim_count job2 attempt2 (without_claim job attempt claims) + (if is_claim job2 attempt2 (job, attempt) then 1 else 0) ≡ claim_count job2 attempt2 claims
claim_count-without job attempt job2 attempt2 [] h = absurd (omega arith)
claim_count-without job attempt job2 attempt2 (claim ∷ claims) h =
    cut_count (is_claim job attempt claim) job attempt job2 attempt2 claim claims (without_claim job attempt claims) (claim_count job attempt claims) refl
    (claim_count-without job attempt job2 attempt2 claims) (omega (arith, h, sum_by-cons (λ c. cond (is_claim job attempt c) 1 0) claim claims))
    ∙ sym (sum_by-cons (λ c. cond (is_claim job2 attempt2 c) 1 0) claim claims)

-- ---- jobs

get_set : (jobs : List Submitted) (place : ℕ) (s t : Submitted) → slice_get jobs place ≡ Some s → slice_get (set jobs place t) place ≡ Some t
get_set [] place s t e = cc
get_set (x ∷ jobs) zero s t e = refl
get_set (x ∷ jobs) (suc place) s t e = get_set jobs place s t e

get_other : (jobs : List Submitted) (place other : ℕ) (t : Submitted) → other ≢ place → slice_get (set jobs place t) other ≡ slice_get jobs other
get_other [] place other t e = refl
get_other (x ∷ jobs) zero zero t e = absurd (e refl)
get_other (x ∷ jobs) zero (suc other) t e = refl
get_other (x ∷ jobs) (suc place) zero t e = refl
get_other (x ∷ jobs) (suc place) (suc other) t e = get_other jobs place other t (λ same. e (ap suc same))

-- a job that is set is read again
pub job_at-with_job : (jobs : List Submitted) (job : ℕ) (s t : Submitted) → job_at jobs job ≡ Some s → job_at (with_job jobs job t) job ≡ Some t
job_at-with_job jobs zero s t e = cc
job_at-with_job jobs (suc place) s t e =
    let there : place ≡ suc place - 1 = omega arith in
    subst (λ (n : ℕ). slice_get (set jobs n t) place ≡ Some t) there (get_set jobs place s t e)

-- and the others stay
pub job_at-with_other : (jobs : List Submitted) (job other : ℕ) (s t : Submitted) → job_at jobs job ≡ Some s → other ≢ job → job_at (with_job jobs job t) other ≡ job_at jobs other
job_at-with_other jobs zero other s t e different = cc
job_at-with_other jobs (suc place) zero s t e different = refl
job_at-with_other jobs (suc place) (suc other) s t e different =
    let there : place ≡ suc place - 1 = omega arith in
    subst (λ (n : ℕ). slice_get (set jobs n t) other ≡ slice_get jobs other) there (get_other jobs place other t (λ same. different (ap suc same)))

get_past : (jobs : List Submitted) (s : Submitted) (place : ℕ) → place ≢ length jobs → slice_get (jobs ++ s ∷ []) place ≡ slice_get jobs place
get_past [] s zero e = absurd (e refl)
get_past [] s (suc place) e = refl
get_past (x ∷ jobs) s zero e = refl
get_past (x ∷ jobs) s (suc place) e = get_past jobs s place (λ same. e (ap suc same))

get_last : (jobs : List Submitted) (s : Submitted) → slice_get (jobs ++ s ∷ []) (length jobs) ≡ Some s
get_last [] s = refl
get_last (x ∷ jobs) s = get_last jobs s

get_none : (jobs : List Submitted) → slice_get jobs (length jobs) ≡ None
get_none [] = refl
get_none (x ∷ jobs) = get_none jobs

-- a job that is added has the next number, which none had before, and the others stay
pub job_at-added : (jobs : List Submitted) (s : Submitted) → job_at (jobs ++ s ∷ []) (length jobs + 1) ≡ Some s
job_at-added jobs s =
    let next : suc (length jobs) ≡ length jobs + 1 = omega arith in
    subst (λ (n : ℕ). job_at (jobs ++ s ∷ []) n ≡ Some s) next (get_last jobs s)

pub job_at-next : (jobs : List Submitted) → job_at jobs (length jobs + 1) ≡ None
job_at-next jobs =
    let next : suc (length jobs) ≡ length jobs + 1 = omega arith in
    subst (λ (n : ℕ). job_at jobs n ≡ None) next (get_none jobs)

pub job_at-added_other : (jobs : List Submitted) (s : Submitted) (other : ℕ) → other ≢ length jobs + 1 → job_at (jobs ++ s ∷ []) other ≡ job_at jobs other
job_at-added_other jobs s zero e = refl
job_at-added_other jobs s (suc place) e = get_past jobs s place (λ same. e (omega arith))

-- ---- sets

pub slice_get-front : {X : Type 0} (xs ys : List X) (i : ℕ) → i < length xs → slice_get (xs ++ ys) i ≡ slice_get xs i
slice_get-front [] ys i h = absurd (omega arith)
slice_get-front (x ∷ xs) ys zero h = refl
slice_get-front (x ∷ xs) ys (suc i) h = slice_get-front xs ys i (omega arith)

-- sets stay where one is added
pub set_at-added : {Query : Type 0} (w : World Query) (next : ReadySet) (version : ℕ) → version ≤ number w → set_at (with_set w next) version ≡ set_at w version
set_at-added w next version h = ap (λ (o : Option ReadySet). unwrap_or o []) (slice_get-front (w.past ++ w.ready ∷ []) (next ∷ []) version (rw length-append (omega arith)))
