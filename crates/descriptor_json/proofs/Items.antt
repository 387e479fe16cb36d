-- Reading a list item by item.
use Rattle.std.proofs.Common.{◌≡◌, ℕ, suc, ◌<◌, List, [], ◌∷◌, ◌++◌, length, get_or, drop, ◌+◌, refl, sym, ap, ◌∙◌, append_assoc, drop-cons, add-one}
use Rattle.std.specs.Prelude.{Ok, Err}
use Rattle.serde_json.specs.Data.{Data}
use Rattle.serde_json.specs.View.{view, items_view}
use Rattle.serde_json.specs.declared.value.Value.{Value}
use Rattle.descriptor_json.specs.Places.{at_index}
use Rattle.descriptor_json.specs.Readings.{Reading, after, items_at}
use Rattle.descriptor_json.specs.Tells.{Tells}
use Rattle.descriptor_json.specs.declared.reading.Stop.{Stop}
use Rattle.descriptor_json.specs.declared.reading.Stop.TheVariants.{At, Memory}

step_is : {A : Type 0} (r : Reading A) (s : Reading (List A)) (done : List A)
    → after (after r (λ a. after s (λ rest. Ok (a ∷ rest)))) (λ rest. Ok (done ++ rest)) ≡ after r (λ a. after s (λ rest. Ok ((done ++ a ∷ []) ++ rest)))
step_is (Ok a) (Ok rest) done = ap Ok (sym (append_assoc done (a ∷ []) rest))
step_is (Ok a) (Err p) done = refl
step_is (Err p) s done = refl

-- the item at i is the next of those that are left
pub item_next : {A : Type 0} (f : List ℕ → Data → Reading A) (p : List ℕ) (i : ℕ) (vs : List Value) (x : Value) (done : List A) (whole : Reading (List A))
    → i < length vs → x ≡ get_or vs i x
    → after (items_at f p i (items_view (drop i vs))) (λ rest. Ok (done ++ rest)) ≡ whole
    → after (f (at_index p i) (view x)) (λ a. after (items_at f p (i + 1) (items_view (drop (i + 1) vs))) (λ rest. Ok ((done ++ a ∷ []) ++ rest))) ≡ whole
item_next f p i vs x done whole h e w =
    rw (add-one, e) (sym (step_is (f (at_index p i) (view (get_or vs i x))) (items_at f p (suc i) (items_view (drop (suc i) vs))) done) ∙ (rw (drop-cons vs i x h) at w))

fails : {A B : Type 0} (stop : Stop) (r : Reading A) (k : A → Reading B) (whole : Reading B) → after r k ≡ whole → Tells {A = A} (Err stop) r → Tells {A = B} (Err stop) whole
fails (At q) r k whole w t = sym w ∙ rw t refl
fails Memory r k whole w t = tt

pub item_fails : {A : Type 0} (f : List ℕ → Data → Reading A) (p here : List ℕ) (i : ℕ) (vs : List Value) (x : Value) (done : List A) (whole : Reading (List A)) (stop : Stop)
    → i < length vs → x ≡ get_or vs i x → here ≡ at_index p i
    → after (items_at f p i (items_view (drop i vs))) (λ rest. Ok (done ++ rest)) ≡ whole
    → Tells {A = A} (Err stop) (f here (view x)) → Tells {A = List A} (Err stop) whole
item_fails f p here i vs x done whole stop h e is w t = fails stop _ _ _ (item_next f p i vs x done whole h e w) (rw is at t)

pub item_reads : {A : Type 0} (f : List ℕ → Data → Reading A) (p here : List ℕ) (i : ℕ) (vs : List Value) (x : Value) (done more : List A) (whole : Reading (List A)) (one : A)
    → i < length vs → x ≡ get_or vs i x → here ≡ at_index p i → more ≡ done ++ one ∷ []
    → after (items_at f p i (items_view (drop i vs))) (λ rest. Ok (done ++ rest)) ≡ whole
    → f here (view x) ≡ Ok one → after (items_at f p (i + 1) (items_view (drop (i + 1) vs))) (λ rest. Ok (more ++ rest)) ≡ whole
item_reads f p here i vs x done more whole one h e is m w t =
    let n = item_next f p i vs x done whole h e w in
    rw m (rw (rw is at t) at n)
