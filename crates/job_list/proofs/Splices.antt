-- What a splice leaves of the slots of a list.
use Rattle.std.proofs.Common.{ℕ, zero, suc, ◌+◌, ◌-◌, ◌^◌, ◌<◌, ◌≤◌, ◌≡◌, Bool, true, false, List, [], ◌∷◌, ◌++◌, length, set, refl, sym, ap, ◌∙◌, arith, inl, inr, subst, replicate}
use Rattle.std.specs.Prelude.{◌==◌, if◌then◌else◌, Option, Some, None, is_some, slice_get}
use Rattle.std.proofs.lemmas.Bool.{cases_lt}
use Rattle.std.proofs.lemmas.Bool.Decides.{eqb_tells}
use Rattle.std.proofs.lemmas.List.{get_or-set_same, get_or-set_other, get_or_past, set_past, length-set, length_push, length-append, length-replicate}
use Rattle.std.specs.Option.{option_or}
use Rattle.job_list.specs.declared.link.Link.{Link}
use Rattle.job_list.specs.JobList.{has, without, NoRepeats}
use Rattle.job_list.specs.Links.{slot_at, walked, slot_in, last_in, IsLinked, leading_on, leading_back, with_next, with_previous, end_without}
use Rattle.job_list.proofs.Numbers.{differ, some_inj, or_right, or_false, false_from, same_number, equal_test, unequal_test, without-first, NoRepeats-without, length-without, NoRepeats-push, length-NoRepeats}

-- whether a number is the one that is given, if one is
abbrev pub is_at : Option ℕ → ℕ → Bool
is_at None k = false
is_at (Some x) k = x == k

-- a slot that leads on, or back, to another number if the test says so
abbrev pub on_if : Bool → Option ℕ → Option Link → Option Link
on_if true next slot = leading_on next slot
on_if false next slot = slot

abbrev pub back_if : Bool → Option ℕ → Option Link → Option Link
back_if true previous slot = leading_back previous slot
back_if false previous slot = slot

-- the slot of k once the neighbours of id are led past it
abbrev pub led_past : Link → ℕ → ℕ → Option Link → Option Link
led_past link id k slot = if id == k then None else back_if (is_at link.next k) link.previous (on_if (is_at link.previous k) link.next slot)

-- the number given, if one is, isn't in the list
abbrev pub Outside : Option ℕ → List ℕ → Type 0
Outside b xs = (k : ℕ) → is_at b k ≡ true → has xs k ≡ false

outside_head : (x : ℕ) (xs : List ℕ) → has xs x ≡ false → Outside (Some x) xs
outside_head x xs h k e = subst (λ j. has xs j ≡ false) (same_number x k e) h

-- a number that isn't in the list has no slot
pub slot_in-none : (b : Option ℕ) (xs : List ℕ) (k : ℕ) → has xs k ≡ false → slot_in b xs k ≡ None
slot_in-none b [] k h = refl
slot_in-none b (x ∷ xs) k h =
    elim (eqb_tells x k) [ inl e ↦ cc (rw e.0 at h) | inr e ↦ rw e.0 (slot_in-none (Some x) xs k (rw e.0 at h)) ]

first_has : (xs : List ℕ) (k : ℕ) → is_at (slice_get xs 0) k ≡ true → has xs k ≡ true
first_has [] k h = h
first_has (x ∷ xs) k h = rw h refl

last_has : (x : ℕ) (xs : List ℕ) (k : ℕ) → is_at (last_in (Some x) xs) k ≡ true → has (x ∷ xs) k ≡ true
last_has x [] k h = rw h refl
last_has x (y ∷ ys) k h = or_right (x == k) _ (last_has y ys k h)

-- the neighbours of a number of the list are in it
previous_has : (y : ℕ) (xs : List ℕ) (id : ℕ) (l : Link) → slot_in (Some y) xs id ≡ Some l → (k : ℕ) → is_at l.previous k ≡ true → has (y ∷ xs) k ≡ true
previous_has y [] id l h k p = absurd (cc h)
previous_has y (x ∷ xs) id l h k p =
    elim (eqb_tells x id) [
      | inl e ↦ let back : Some y ≡ l.previous = ap (λ (m : Link). m.previous) (some_inj (rw e.0 at h)) in
          let at : (y == k) ≡ true = subst (λ (m : Option ℕ). is_at m k ≡ true) (sym back) p in
          rw at refl
      | inr e ↦ or_right (y == k) _ (previous_has x xs id l (rw e.0 at h) k p)
    ]

next_has : (b : Option ℕ) (xs : List ℕ) (id : ℕ) (l : Link) → slot_in b xs id ≡ Some l → (k : ℕ) → is_at l.next k ≡ true → has xs k ≡ true
next_has b [] id l h k p = absurd (cc h)
next_has b (x ∷ xs) id l h k p =
    elim (eqb_tells x id) [
      | inl e ↦ let on : slice_get xs 0 ≡ l.next = ap (λ (m : Link). m.next) (some_inj (rw e.0 at h)) in
          or_right (x == k) _ (first_has xs k (subst (λ (m : Option ℕ). is_at m k ≡ true) (sym on) p))
      | inr e ↦ or_right (x == k) _ (next_has (Some x) xs id l (rw e.0 at h) k p)
    ]

-- the slot before which another number stands now
slot_in-back : (b c : Option ℕ) (xs : List ℕ) (k : ℕ) → slot_in b xs k ≡ back_if (is_at (slice_get xs 0) k) b (slot_in c xs k)
slot_in-back b c [] k = refl
slot_in-back b c (x ∷ xs) k = elim (eqb_tells x k) [ inl e ↦ rw e.0 refl | inr e ↦ rw e.0 refl ]

on_if-none : (p n : Option ℕ) (k : ℕ) (slot : Option Link) → (is_at p k ≡ true → slot ≡ None) → on_if (is_at p k) n slot ≡ slot
on_if-none p n k slot h = by_test (is_at p k) h where
  by_test : (t : Bool) → (t ≡ true → slot ≡ None) → on_if t n slot ≡ slot
  by_test true h = rw (h refl) refl
  by_test false h = refl

-- whoever stands before a list that hasn't the number x isn't x
not_before : (x : ℕ) (y : ℕ) (xs : List ℕ) (id : ℕ) (l : Link) → slot_in (Some y) xs id ≡ Some l → has (y ∷ xs) x ≡ false → is_at l.previous x ≡ false
not_before x y xs id l h away = false_from _ (λ p. sym (previous_has y xs id l h x p) ∙ away)

not_after : (x : ℕ) (b : Option ℕ) (xs : List ℕ) (id : ℕ) (l : Link) → slot_in b xs id ≡ Some l → has xs x ≡ false → is_at l.next x ≡ false
not_after x b xs id l h away = false_from _ (λ p. sym (next_has b xs id l h x p) ∙ away)

-- the slot of the item before the number that goes
slot_in-before : (b : Option ℕ) (x : ℕ) (xs : List ℕ) (id : ℕ) (l : Link) → NoRepeats xs → has xs x ≡ false → slot_in (Some x) xs id ≡ Some l →
    Some (record { previous = b; next = slice_get (without id xs) 0 }) ≡ on_if (is_at l.previous x) l.next (Some (record { previous = b; next = slice_get xs 0 }))
slot_in-before b x [] id l d away h = absurd (cc h)
slot_in-before b x (r ∷ rs) id l d away h =
    elim (eqb_tells r id) [
      | inl e ↦
          let same : record { previous = Some x; next = slice_get rs 0 } ≡ l = some_inj (rw e.0 at h) in
          let on : l.next ≡ slice_get rs 0 = sym (ap (λ (m : Link). m.next) same) in
          let back : is_at l.previous x ≡ true = subst (λ (m : Link). is_at m.previous x ≡ true) same (equal_test x) in
          rw (without-first r id rs e.0 d.0, back, on) refl
      | inr e ↦
          rw (e.0, not_before x r rs id l (rw e.0 at h) away) refl
    ]

-- where the first item goes
slot_in-rest : (b : Option ℕ) (x : ℕ) (xs : List ℕ) (id : ℕ) → (x == id) ≡ true → has xs x ≡ false → Outside b xs → (k : ℕ) →
    slot_in b xs k ≡ led_past (record { previous = b; next = slice_get xs 0 }) id k (slot_in b (x ∷ xs) k)
slot_in-rest b x xs id e away out k =
    subst (λ j. slot_in b xs k ≡ led_past (record { previous = b; next = slice_get xs 0 }) j k (slot_in b (x ∷ xs) k))
    (same_number x id e)
    (elim (eqb_tells x k) [
      | inl f ↦ rw f.0 (slot_in-none b xs k (subst (λ j. has xs j ≡ false) f.1 away))
      | inr f ↦
          let stays : on_if (is_at b k) (slice_get xs 0) (slot_in (Some x) xs k) ≡ slot_in (Some x) xs k =
          on_if-none b (slice_get xs 0) k _ (λ p. slot_in-none (Some x) xs k (out k p)) in
          rw (f.0, stays) (slot_in-back b (Some x) xs k)
    ])

-- where a later item goes, the slot of the first
slot_in-first : (b : Option ℕ) (x : ℕ) (xs : List ℕ) (id : ℕ) (l : Link) → (x == id) ≡ false → NoRepeats xs → has xs x ≡ false → slot_in (Some x) xs id ≡ Some l →
    slot_in b (x ∷ without id xs) x ≡ led_past l id x (slot_in b (x ∷ xs) x)
slot_in-first b x xs id l e d away h =
    rw (equal_test x, unequal_test x id e, not_after x (Some x) xs id l h away) (slot_in-before b x xs id l d away h)

-- The slots of a list without a number are those of the list, where the neighbours of the number are led past it.
pub slot_in-without : (b : Option ℕ) (xs : List ℕ) (id : ℕ) (l : Link) → NoRepeats xs → Outside b xs → slot_in b xs id ≡ Some l → (k : ℕ) →
    slot_in b (without id xs) k ≡ led_past l id k (slot_in b xs k)
slot_in-without b [] id l d out h k = absurd (cc h)
slot_in-without b (x ∷ xs) id l d out h k =
    elim (eqb_tells x id) [
      | inl e ↦
          let same : record { previous = b; next = slice_get xs 0 } ≡ l = some_inj (rw e.0 at h) in
          let later : Outside b xs = λ j p. (or_false (x == j) _ (out j p)).1 in
          rw (without-first x id xs e.0 d.0) (subst (λ (m : Link). slot_in b xs k ≡ led_past m id k (slot_in b (x ∷ xs) k)) same (slot_in-rest b x xs id e.0 d.0 later k))
      | inr e ↦
          let there : slot_in (Some x) xs id ≡ Some l = rw e.0 at h in
          let kept : without id (x ∷ xs) ≡ x ∷ without id xs = rw e.0 refl in
          rw kept (elim (eqb_tells x k) [
            | inl f ↦ subst (λ j. slot_in b (x ∷ without id xs) j ≡ led_past l id j (slot_in b (x ∷ xs) j)) f.1 (slot_in-first b x xs id l e.0 d.1 d.0 there)
            | inr f ↦ rw f.0 (slot_in-without (Some x) xs id l d.1 (outside_head x xs d.0) there k)
          ])
    ]

-- a number with another before it isn't the first
end_without-previous : (y : ℕ) (xs : List ℕ) (id : ℕ) (l : Link) (inner end : Option ℕ) → slot_in (Some y) xs id ≡ Some l → end_without l.previous inner end ≡ end
end_without-previous y [] id l inner end h = absurd (cc h)
end_without-previous y (x ∷ xs) id l inner end h =
    elim (eqb_tells x id) [
      | inl e ↦ subst (λ (m : Link). end_without m.previous inner end ≡ end) (some_inj (rw e.0 at h)) refl
      | inr e ↦ end_without-previous x xs id l inner end (rw e.0 at h)
    ]

first-without : (xs : List ℕ) (id : ℕ) (l : Link) → NoRepeats xs → slot_in None xs id ≡ Some l →
    slice_get (without id xs) 0 ≡ end_without l.previous l.next (slice_get xs 0)
first-without [] id l d h = absurd (cc h)
first-without (x ∷ xs) id l d h =
    elim (eqb_tells x id) [
      | inl e ↦
          rw (without-first x id xs e.0 d.0) (subst (λ (m : Link). slice_get xs 0 ≡ end_without m.previous m.next (Some x)) (some_inj (rw e.0 at h)) refl)
      | inr e ↦ rw e.0 (sym (end_without-previous x xs id l l.next (Some x) (rw e.0 at h)))
    ]

last-without : (b : Option ℕ) (xs : List ℕ) (id : ℕ) (l : Link) → NoRepeats xs → slot_in b xs id ≡ Some l →
    last_in b (without id xs) ≡ end_without l.next l.previous (last_in b xs)
last-without b [] id l d h = absurd (cc h)
last-without b (x ∷ xs) id l d h =
    elim (eqb_tells x id) [
      | inl e ↦
          rw (without-first x id xs e.0 d.0) (subst (λ (m : Link). last_in b xs ≡ end_without m.next m.previous (last_in (Some x) xs)) (some_inj (rw e.0 at h)) (last_of b x xs))
      | inr e ↦ rw e.0 (last-without (Some x) xs id l d.1 (rw e.0 at h))
    ]
  where
    last_of : (b : Option ℕ) (x : ℕ) (xs : List ℕ) → last_in b xs ≡ end_without (slice_get xs 0) b (last_in (Some x) xs)
    last_of b x [] = refl
    last_of b x (r ∷ rs) = refl

-- the numbers of the list are those that have a slot
pub is_some-slot_in : (b : Option ℕ) (xs : List ℕ) (k : ℕ) → is_some (slot_in b xs k) ≡ has xs k
is_some-slot_in b [] k = refl
is_some-slot_in b (x ∷ xs) k = elim (eqb_tells x k) [ inl e ↦ rw e.0 refl | inr e ↦ rw e.0 (is_some-slot_in (Some x) xs k) ]

slot_at-set : (slots : List (Option Link)) (id : ℕ) (slot : Option Link) (k : ℕ) → (length slots ≤ id → slot ≡ None) →
    slot_at (set slots id slot) k ≡ (if id == k then slot else slot_at slots k)
slot_at-set slots id slot k past =
    elim (eqb_tells id k) [
      | inl e ↦ rw e.0 (subst (λ j. slot_at (set slots id slot) j ≡ slot) e.1 (elim (cases_lt id (length slots)) [
        | inl within ↦ get_or-set_same slots id slot None within
        | inr beyond ↦ rw (set_past slots id slot beyond, get_or_past slots id None beyond) (sym (past beyond))
      ]))
      | inr e ↦ rw e.0 (get_or-set_other slots id k slot None (λ f. e.1 (sym f)))
    ]

slot_at-with_next : (p n : Option ℕ) (slots : List (Option Link)) (k : ℕ) → slot_at (with_next p n slots) k ≡ on_if (is_at p k) n (slot_at slots k)
slot_at-with_next None n slots k = refl
slot_at-with_next (Some id) n slots k =
    rw (slot_at-set slots id (leading_on n (slot_at slots id)) k (λ beyond. rw (get_or_past slots id None beyond) refl))
    (elim (eqb_tells id k) [
      | inl e ↦ rw e.0 (ap (λ j. leading_on n (slot_at slots j)) e.1)
      | inr e ↦ rw e.0 refl
    ])

slot_at-with_previous : (n p : Option ℕ) (slots : List (Option Link)) (k : ℕ) → slot_at (with_previous n p slots) k ≡ back_if (is_at n k) p (slot_at slots k)
slot_at-with_previous None p slots k = refl
slot_at-with_previous (Some id) p slots k =
    rw (slot_at-set slots id (leading_back p (slot_at slots id)) k (λ beyond. rw (get_or_past slots id None beyond) refl))
    (elim (eqb_tells id k) [
      | inl e ↦ rw e.0 (ap (λ j. leading_back p (slot_at slots j)) e.1)
      | inr e ↦ rw e.0 refl
    ])

-- where a number is put last, the slot of the first item
first_slot-push : (b : Option ℕ) (x : ℕ) (xs : List ℕ) (id : ℕ) → has xs x ≡ false → (x == id) ≡ false →
    slot_in b ((x ∷ xs) ++ id ∷ []) x ≡ on_if (is_at (last_in b (x ∷ xs)) x) (Some id) (if id == x then Some (record { previous = last_in b (x ∷ xs); next = None }) else slot_in b (x ∷ xs) x)
first_slot-push b x [] id away e = rw (unequal_test x id e, equal_test x) refl
first_slot-push b x (r ∷ rs) id away e =
    let inner : is_at (last_in (Some r) rs) x ≡ false = false_from _ (λ p. sym (last_has r rs x p) ∙ away) in
    rw (unequal_test x id e, equal_test x, inner) refl

-- The slots of a list with a number put last are those of the list, where the last item leads on to the number.
pub slot_in-push : (b : Option ℕ) (xs : List ℕ) (id : ℕ) → NoRepeats xs → has xs id ≡ false → is_at b id ≡ false → Outside b xs → (k : ℕ) →
    slot_in b (xs ++ id ∷ []) k ≡ on_if (is_at (last_in b xs) k) (Some id) (if id == k then Some (record { previous = last_in b xs; next = None }) else slot_in b xs k)
slot_in-push b [] id d new other out k =
    elim (eqb_tells id k) [
      | inl e ↦ let apart : is_at b k ≡ false = subst (λ j. is_at b j ≡ false) e.1 other in rw (e.0, apart) refl
      | inr e ↦ rw e.0 (sym (on_if-none b (Some id) k None (λ _. refl)))
    ]
slot_in-push b (x ∷ xs) id d new other out k =
    let parts : ((x == id) ≡ false) × (has xs id ≡ false) = or_false (x == id) _ new in
    elim (eqb_tells x k) [
      | inl f ↦
          subst (λ j. slot_in b ((x ∷ xs) ++ id ∷ []) j ≡ on_if (is_at (last_in b (x ∷ xs)) j) (Some id) (if id == j then Some (record { previous = last_in b (x ∷ xs); next = None }) else slot_in b (x ∷ xs) j))
          f.1
          (first_slot-push b x xs id d.0 parts.0)
      | inr f ↦ rw f.0 (slot_in-push (Some x) xs id d.1 parts.1 parts.0 (outside_head x xs d.0) k)
    ]

first-push : (xs : List ℕ) (id : ℕ) → slice_get (xs ++ id ∷ []) 0 ≡ option_or (slice_get xs 0) (Some id)
first-push [] id = refl
first-push (x ∷ xs) id = refl

last-push : (b : Option ℕ) (xs : List ℕ) (id : ℕ) → last_in b (xs ++ id ∷ []) ≡ Some id
last-push b [] id = refl
last-push b (x ∷ xs) id = last-push (Some x) xs id

-- the links lead along the list
walk : (b : Option ℕ) (xs : List ℕ) (slots : List (Option Link)) → NoRepeats xs → ((k : ℕ) → has xs k ≡ true → slot_at slots k ≡ slot_in b xs k) →
    walked (length xs) (slice_get xs 0) slots ≡ xs
walk b [] slots d h = refl
walk b (x ∷ xs) slots d h =
    let here : slot_at slots x ≡ Some (record { previous = b; next = slice_get xs 0 }) = h x (rw (equal_test x) refl) ∙ rw (equal_test x) refl in
    let later : (k : ℕ) → has xs k ≡ true → slot_at slots k ≡ slot_in (Some x) xs k =
    λ k there. elim (eqb_tells x k) [
      | inl f ↦ absurd (differ (sym there ∙ subst (λ j. has xs j ≡ false) f.1 d.0))
      | inr f ↦ rw f.0 at (h k (or_right (x == k) _ there))
    ] in
    rw here (ap (λ ys. x ∷ ys) (walk (Some x) xs slots d.1 later))

-- a list has one way through its slots
pub walked-IsLinked : (xs : List ℕ) (slots : List (Option Link)) (h t : Option ℕ) (n : ℕ) → IsLinked xs slots h t n → walked n h slots ≡ xs
walked-IsLinked xs slots h t n l = rw (l.count, l.first) (walk None xs slots l.distinct (λ k _. l.links k))

-- each number of a linked list has its slot
pub below-IsLinked : (xs : List ℕ) (slots : List (Option Link)) (h t : Option ℕ) (n : ℕ) → IsLinked xs slots h t n → (k : ℕ) → has xs k ≡ true → k < length slots
below-IsLinked xs slots h t n l k there =
    elim (cases_lt k (length slots)) [
      | inl within ↦ within
      | inr beyond ↦
          let none : slot_in None xs k ≡ None = sym (l.links k) ∙ get_or_past slots k None beyond in
          absurd (differ (sym there ∙ (sym (is_some-slot_in None xs k) ∙ ap is_some none)))
    ]

length-with_next : (p n : Option ℕ) (slots : List (Option Link)) → length (with_next p n slots) ≡ length slots
length-with_next None n slots = refl
length-with_next (Some id) n slots = length-set slots id _

length-with_previous : (n p : Option ℕ) (slots : List (Option Link)) → length (with_previous n p slots) ≡ length slots
length-with_previous None p slots = refl
length-with_previous (Some id) p slots = length-set slots id _

outside_none : (xs : List ℕ) → Outside None xs
outside_none xs k h = absurd (differ (sym h))

-- what a type's invariant says, of the list that its links lead along
pub IsLinked-walked : (xs : List ℕ) (slots : List (Option Link)) (h t : Option ℕ) (n : ℕ) → IsLinked xs slots h t n → IsLinked (walked n h slots) slots h t n
IsLinked-walked xs slots h t n l = subst (λ ys. IsLinked ys slots h t n) (sym (walked-IsLinked xs slots h t n l)) l

-- a number put last
pub IsLinked-push : (xs : List ℕ) (slots : List (Option Link)) (h t : Option ℕ) (n id : ℕ) → IsLinked xs slots h t n → id < length slots → has xs id ≡ false →
    IsLinked (xs ++ id ∷ []) (with_next t (Some id) (set slots id (Some (record { previous = t; next = None })))) (option_or h (Some id)) (Some id) (n + 1)
IsLinked-push xs slots h t n id l within new = record {
  links = λ k.
      rw (slot_at-with_next t (Some id) _ k, slot_at-set slots id _ k (λ beyond. absurd (omega arith)), l.links k, l.last)
      (sym (slot_in-push None xs id l.distinct new refl (outside_none xs) k));
  first = rw l.first (sym (first-push xs id));
  last = sym (last-push None xs id);
  count = rw l.count (sym (length_push xs id));
  distinct = NoRepeats-push xs id l.distinct new;
  within = rw (length-with_next t (Some id) _, length-set slots id _) l.within;
}

-- a number taken out
pub IsLinked-without : (xs : List ℕ) (slots : List (Option Link)) (h t : Option ℕ) (n id : ℕ) (link : Link) → IsLinked xs slots h t n → slot_at slots id ≡ Some link →
    IsLinked (without id xs) (set (with_previous link.next link.previous (with_next link.previous link.next slots)) id None)
    (end_without link.previous link.next h) (end_without link.next link.previous t) (n - 1)
IsLinked-without xs slots h t n id link l slot =
    let there : slot_in None xs id ≡ Some link = sym (l.links id) ∙ slot in
    let listed : has xs id ≡ true = sym (is_some-slot_in None xs id) ∙ ap is_some there in
    let less : length (without id xs) + 1 ≡ length xs = length-without id xs l.distinct listed in
    record {
      links = λ k.
          rw (slot_at-set _ id None k (λ beyond. refl), slot_at-with_previous link.next link.previous _ k, slot_at-with_next link.previous link.next slots k, l.links k)
          (sym (slot_in-without None xs id link l.distinct (outside_none xs) there k));
      first = rw l.first (sym (first-without xs id link l.distinct there));
      last = rw l.last (sym (last-without None xs id link l.distinct there));
      count = rw l.count (omega arith);
      distinct = NoRepeats-without id xs l.distinct;
      within = rw (length-set (with_previous link.next link.previous (with_next link.previous link.next slots)) id None, length-with_previous link.next link.previous (with_next link.previous link.next slots), length-with_next link.previous link.next slots) l.within;
    }

-- the numbers of a linked list are those that have a slot
pub has-IsLinked : (xs : List ℕ) (slots : List (Option Link)) (h t : Option ℕ) (n : ℕ) → IsLinked xs slots h t n → (k : ℕ) → is_some (slot_at slots k) ≡ has xs k
has-IsLinked xs slots h t n l k = ap is_some (l.links k) ∙ is_some-slot_in None xs k

-- the tail and a number's neighbours have their slots
pub below-tail : (xs : List ℕ) (slots : List (Option Link)) (h t : Option ℕ) (n : ℕ) → IsLinked xs slots h t n → (y : ℕ) → t ≡ Some y → y < length slots
below-tail xs slots h t n l y e = below-IsLinked xs slots h t n l y (in_list xs (sym l.last ∙ e))
  where
    in_list : (xs : List ℕ) → last_in None xs ≡ Some y → has xs y ≡ true
    in_list [] e = absurd (cc e)
    in_list (x ∷ xs) e = last_has x xs y (subst (λ (m : Option ℕ). is_at m y ≡ true) (sym e) (equal_test y))

pub below-previous : (xs : List ℕ) (slots : List (Option Link)) (h t : Option ℕ) (n id : ℕ) (link : Link) → IsLinked xs slots h t n → slot_at slots id ≡ Some link → (y : ℕ) → link.previous ≡ Some y → y < length slots
below-previous xs slots h t n id link l slot y e = below-IsLinked xs slots h t n l y (in_list xs (sym (l.links id) ∙ slot))
  where
    in_list : (xs : List ℕ) → slot_in None xs id ≡ Some link → has xs y ≡ true
    in_list [] there = absurd (cc there)
    in_list (x ∷ xs) there =
        elim (eqb_tells x id) [
          | inl f ↦
              let back : None ≡ link.previous = ap (λ (m : Link). m.previous) (some_inj (rw f.0 at there)) in
              absurd (cc (back ∙ e))
          | inr f ↦ previous_has x xs id link (rw f.0 at there) y (subst (λ (m : Option ℕ). is_at m y ≡ true) (sym e) (equal_test y))
        ]

pub below-next : (xs : List ℕ) (slots : List (Option Link)) (h t : Option ℕ) (n id : ℕ) (link : Link) → IsLinked xs slots h t n → slot_at slots id ≡ Some link → (y : ℕ) → link.next ≡ Some y → y < length slots
below-next xs slots h t n id link l slot y e =
    below-IsLinked xs slots h t n l y (next_has None xs id link (sym (l.links id) ∙ slot) y (subst (λ (m : Option ℕ). is_at m y ≡ true) (sym e) (equal_test y)))

-- slots that come at the end hold nothing
pub IsLinked-more : (xs : List ℕ) (slots : List (Option Link)) (h t : Option ℕ) (n more : ℕ) → IsLinked xs slots h t n → length slots + more < 2 ^ 32 → IsLinked xs (slots ++ replicate more None) h t n
IsLinked-more xs slots h t n more l small = record {
  links = λ k. empty_end slots more k ∙ l.links k;
  first = l.first;
  last = l.last;
  count = l.count;
  distinct = l.distinct;
  within = rw (length-append slots (replicate more None), length-replicate {A = Option Link} more None) small;
}
  where
    empty_end : (slots : List (Option Link)) (more k : ℕ) → slot_at (slots ++ replicate more None) k ≡ slot_at slots k
    empty_end [] zero k = refl
    empty_end [] (suc more) zero = refl
    empty_end [] (suc more) (suc k) = empty_end [] more k
    empty_end (s ∷ slots) more zero = refl
    empty_end (s ∷ slots) more (suc k) = empty_end slots more k

-- a list in slots is shorter than what 32 bits count
pub count-IsLinked : (xs : List ℕ) (slots : List (Option Link)) (h t : Option ℕ) (n : ℕ) → IsLinked xs slots h t n → n < 2 ^ 32
count-IsLinked xs slots h t n l =
    let fewer : length xs ≤ length slots = length-NoRepeats xs (length slots) l.distinct (below-IsLinked xs slots h t n l) in
    omega (arith, fewer, l.count, l.within)
