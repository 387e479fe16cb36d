-- The texts that were seen, and the first that comes again.
use Rattle.std.proofs.Common.{◌≡◌, ℕ, suc, ◌<◌, ◌+◌, List, ◌∷◌, length, get_or, drop, Option, Some, None, Bool, true, false, cond, refl, sym, ◌∙◌, drop-cons, add-one, Vec, Global}
use Rattle.std.specs.Prelude.{not, ◌||◌, bytes_eq}
use Rattle.std.specs.Option.{option_or}
use Rattle.std.specs.Ordering.{is_eq, nat_cmp}
use Rattle.std.specs.Cmp.Lexicographic.{slice_cmp}
use Rattle.std.specs.BTreeSet.{BTreeSet, contains, Updates}
use Rattle.std.proofs.lemmas.Map.Text.{is_eq-slice_cmp}
use Rattle.desc_checks.specs.Firsts.{first, is_among, along}
use Rattle.desc_checks.specs.Seen.{vec_cmp, HasSeen}
use Rattle.desc_checks.specs.declared.seen.Seen.{Seen}
use Rattle.desc_checks.proofs.FirstLemmas.{first_append}

cond_or : (a b x : Bool) → a ≡ b → cond a true x ≡ (b || x)
cond_or true true x e = refl
cond_or true false x e = cc
cond_or false true x e = cc
cond_or false false x e = refl

pub seen_more : (key : Vec ℕ Global) (text : List ℕ) (old new : BTreeSet (Vec ℕ Global)) (earlier : List (List ℕ)) → key.items ≡ text → Updates vec_cmp old new key true
    → ((q : Vec ℕ Global) → contains vec_cmp old q ≡ is_among earlier q.items)
    → (q : Vec ℕ Global) → contains vec_cmp new q ≡ is_among (text ∷ earlier) q.items
seen_more key text old new earlier t u h q =
    let same : is_eq (slice_cmp nat_cmp key.items q.items) ≡ bytes_eq text q.items = rw (← t) (is_eq-slice_cmp key.items q.items) in
    u.0 q ∙ rw (h q) (cond_or (is_eq (slice_cmp nat_cmp key.items q.items)) (bytes_eq text q.items) (is_among earlier q.items) same)

next : {X : Type 0} (key : X → List ℕ) (failing : Bool → X → List (List ℕ)) (earlier : List (List ℕ)) (xs : List X) (i : ℕ) (x : X) (whole : Option (List ℕ)) → i < length xs → x ≡ get_or xs i x
    → whole ≡ first (along key failing earlier (drop i xs))
    → whole ≡ option_or (first (failing (not (is_among earlier (key x))) x)) (first (along key failing (key x ∷ earlier) (drop (i + 1) xs)))
next key failing earlier xs i x whole h e w =
    w ∙ (rw (drop-cons xs i x h, add-one) (rw (← e) (first_append (failing (not (is_among earlier (key x))) x) (along key failing (key x ∷ earlier) (drop (suc i) xs)))))

later : {A : Type 0} (a whole rest : Option A) → whole ≡ option_or a rest → None ≡ a → whole ≡ rest
later None whole rest w e = w
later (Some x) whole rest w e = cc

here : {A : Type 0} (a whole rest : Option A) (p : A) → whole ≡ option_or a rest → Some p ≡ a → Some p ≡ whole
here a whole rest p w e = sym (w ∙ rw (← e) refl)

pub along_later : {X : Type 0} (key : X → List ℕ) (failing : Bool → X → List (List ℕ)) (s more : Seen) (xs : List X) (i : ℕ) (x : X) (whole : Option (List ℕ)) (text : List ℕ)
    → i < length xs → x ≡ get_or xs i x → text ≡ key x
    → (earlier : List (List ℕ)) × HasSeen s earlier × (whole ≡ first (along key failing earlier (drop i xs)))
    → (is_new : Bool) → ((earlier : List (List ℕ)) → HasSeen s earlier → is_new ≡ not (is_among earlier text))
    → ((earlier : List (List ℕ)) → HasSeen s earlier → HasSeen more (text ∷ earlier))
    → None ≡ first (failing is_new x)
    → (earlier : List (List ℕ)) × HasSeen more earlier × (whole ≡ first (along key failing earlier (drop (i + 1) xs)))
along_later key failing s more xs i x whole text h e t (earlier, seen, w) is_new told grows none = (
  text ∷ earlier,
  grows earlier seen,
  later (first (failing is_new x)) whole (first (along key failing (text ∷ earlier) (drop (i + 1) xs))) (rw (told earlier seen, t) (next key failing earlier xs i x whole h e w)) none,
)

pub along_here : {X : Type 0} (key : X → List ℕ) (failing : Bool → X → List (List ℕ)) (s : Seen) (xs : List X) (i : ℕ) (x : X) (whole : Option (List ℕ)) (text p : List ℕ)
    → i < length xs → x ≡ get_or xs i x → text ≡ key x
    → (earlier : List (List ℕ)) × HasSeen s earlier × (whole ≡ first (along key failing earlier (drop i xs)))
    → (is_new : Bool) → ((earlier : List (List ℕ)) → HasSeen s earlier → is_new ≡ not (is_among earlier text))
    → Some p ≡ first (failing is_new x) → Some p ≡ whole
along_here key failing s xs i x whole text p h e t (earlier, seen, w) is_new told some =
    here (first (failing is_new x)) whole (first (along key failing (key x ∷ earlier) (drop (i + 1) xs))) p (rw (told earlier seen, t) (next key failing earlier xs i x whole h e w)) some
