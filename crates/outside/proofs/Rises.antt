-- What a list of hands did between two moments: nothing, one step after another, one hand of several, side by side, in
-- another order.
use Rattle.std.proofs.Common.{◌≡◌, ◌+◌, ◌-◌, ◌^◌, ◌++◌, ◌≤◌, ◌<◌, ℕ, List, [], ◌∷◌, length, map, take, drop, set, get_or, Option, Some, None, All, append_assoc, append-nil, length-set, subst, sym, ap, refl, ◌∙◌, arith, unwrap_or}
use Rattle.std.specs.Prelude.{IsSome, is_some, option_map}
use Rattle.std.specs.List.Sorted.{IsPermutation}
use Rattle.std.proofs.lemmas.List.{drop_more, get_or-map, get_or-set_same, length-take-le, map-append, map-set, set-get_or, set-set, set_at, take-append-drop}
use Rattle.std.proofs.lemmas.List.Concat.{flat_map-append}
use Rattle.std.proofs.lemmas.List.Elements.{All-append, All-cons, All-get_or, All-head, All-map, All-nil, All-set, All-tail}
use Rattle.std.proofs.lemmas.List.Sorted.{All-permutation, IsPermutation-append, IsPermutation-append_comm, IsPermutation-append_left, IsPermutation-append_right, IsPermutation-map, IsPermutation-refl, IsPermutation-sym, IsPermutation-trans, sum_by-IsPermutation}
use Rattle.std.proofs.lemmas.List.Sums.{sum_by-append, sum_by-set}
use Rattle.outside.proofs.JoinedLists.{flat_map-IsPermutation}
use Rattle.outside.specs.Counts.{Rose}
use Rattle.outside.specs.Rises.{AllTell, AllTellThat, AreBelow, Gained, Risen, TellSame, entries_of}

-- all of two lists that stand one after the other
all_left : {X : Type 0} (P : X → Type 0) (xs ys : List X) → All P (xs ++ ys) → All P xs
all_left P [] ys h = All-nil P
all_left P (x ∷ xs) ys h = All-cons P x xs (All-head P x (xs ++ ys) h) (all_left P xs ys (All-tail P x (xs ++ ys) h))

all_right : {X : Type 0} (P : X → Type 0) (xs ys : List X) → All P (xs ++ ys) → All P ys
all_right P [] ys h = h
all_right P (x ∷ xs) ys h = all_right P xs ys (All-tail P x (xs ++ ys) h)

-- what holds of each image holds of each element by its image
all_unmap : {X Y : Type 0} (P : X → Type 0) (f : Y → X) (ys : List Y) → All P (map f ys) → All (λ y. P (f y)) ys
all_unmap P f [] h = All-nil (λ y. P (f y))
all_unmap P f (y ∷ ys) h = All-cons (λ y'. P (f y')) y ys (All-head P (f y) (map f ys) h) (all_unmap P f ys (All-tail P (f y) (map f ys) h))

-- four lists, with the two in the middle in each other's place
middle_turned : {E : Type 0} (a b c d : List E) → IsPermutation ((a ++ b) ++ (c ++ d)) ((a ++ c) ++ (b ++ d))
middle_turned a b c d =
    let left : (a ++ b) ++ (c ++ d) ≡ a ++ ((b ++ c) ++ d) = simp append_assoc in
    let right : (a ++ c) ++ (b ++ d) ≡ a ++ ((c ++ b) ++ d) = simp append_assoc in
    rw (left, right) (IsPermutation-append_right a _ _ (IsPermutation-append_left d _ _ (IsPermutation-append_comm b c)))

-- ## Counts

pub Risen-none : {H : Type 0} (count : H → ℕ) (hands : List H) → Risen count hands hands 0
Risen-none count hands = record { below = λ h. h; by = λ h. omega arith }

pub Risen-then : {H : Type 0} (count : H → ℕ) (old mid new : List H) (n m : ℕ) → Risen count old mid n → Risen count mid new m → Risen count old new (n + m)
Risen-then count old mid new n m a b = record { below = λ h. a.below (b.below h); by = λ h. omega (arith, a.by (b.below h), b.by h) }

pub Risen-fewer : {H : Type 0} (count : H → ℕ) (old new : List H) (n m : ℕ) → m ≤ n → Risen count old new n → Risen count old new m
Risen-fewer count old new n m less a = record { below = a.below; by = λ h. omega (arith, a.by h, less) }

-- one hand's count rose by n, or stands at its end
pub Risen-set : {H : Type 0} (count : H → ℕ) (hands : List H) (k : ℕ) (hand d : H) (n : ℕ) → k < length hands → (count hand < 2 ^ 64 - 1 → count (get_or hands k d) + n ≤ count hand) → Risen count hands (set hands k hand) n
Risen-set {H = H} count hands k hand d n inside rise =
    let P : H → Type 0 = λ h. count h < 2 ^ 64 - 1 in
    let here : AreBelow count (set hands k hand) → count hand < 2 ^ 64 - 1 = λ b. subst P (get_or-set_same hands k hand d inside) (All-get_or P (set hands k hand) k d (rw length-set inside) b) in
    let back : set (set hands k hand) k (get_or hands k d) ≡ hands = set-set hands k hand (get_or hands k d) ∙ set-get_or hands k d in
    record {
      below = λ b. subst (AreBelow count) back (All-set P (set hands k hand) k (get_or hands k d) (omega (arith, here b, rise (here b))) b);
      by = λ b. omega (arith, sum_by-set count hands k hand d inside, rise (here b));
    }

-- one hand alone
pub Risen-one : {H : Type 0} (count : H → ℕ) (old new : H) (n : ℕ) → (count new < 2 ^ 64 - 1 → count old + n ≤ count new) → Risen count (old ∷ []) (new ∷ []) n
Risen-one count old new n rise = Risen-set count (old ∷ []) 0 new old n (omega arith) rise

-- two lists of hands side by side
pub Risen-append : {H : Type 0} (count : H → ℕ) (old new others others' : List H) (n m : ℕ) → Risen count old new n → Risen count others others' m → Risen count (old ++ others) (new ++ others') (n + m)
Risen-append {H = H} count old new others others' n m a b =
    let P : H → Type 0 = λ h. count h < 2 ^ 64 - 1 in
    record {
      below = λ h. All-append P old others (a.below (all_left P new others' h)) (b.below (all_right P new others' h));
      by = λ h. omega (arith, a.by (all_left P new others' h), b.by (all_right P new others' h), sum_by-append count old others, sum_by-append count new others');
    }

-- the order of the hands doesn't matter, before or now
pub Risen-IsPermutation : {H : Type 0} (count : H → ℕ) (old old' new new' : List H) (n : ℕ) → IsPermutation old old' → IsPermutation new new' → Risen count old new n → Risen count old' new' n
Risen-IsPermutation {H = H} count old old' new new' n before now a =
    let P : H → Type 0 = λ h. count h < 2 ^ 64 - 1 in
    let back : AreBelow count new' → AreBelow count new = All-permutation P new' new (IsPermutation-sym new new' now) in
    record {
      below = λ h. All-permutation P old old' before (a.below (back h));
      by = λ h. omega (arith, a.by (back h), sum_by-IsPermutation count old old' before, sum_by-IsPermutation count new new' now);
    }

-- ## What no call changes

pub TellSame-none : {H F : Type 0} (told : H → Option F) (hands : List H) → TellSame told hands hands
TellSame-none told hands = record { same = IsPermutation-refl (map told hands) }

pub TellSame-then : {H F : Type 0} (told : H → Option F) (old mid new : List H) → TellSame told old mid → TellSame told mid new → TellSame told old new
TellSame-then told old mid new a b = record { same = IsPermutation-trans _ _ _ a.same b.same }

-- one hand tells what it told
pub TellSame-set : {H F : Type 0} (told : H → Option F) (hands : List H) (k : ℕ) (hand d : H) → k < length hands → told hand ≡ told (get_or hands k d) → TellSame told hands (set hands k hand)
TellSame-set told hands k hand d inside same =
    let kept : map told (set hands k hand) ≡ map told hands = map-set told hands k hand ∙ (ap (set (map told hands) k) (same ∙ sym (get_or-map told hands k d (told d) inside)) ∙ set-get_or (map told hands) k (told d)) in
    record { same = rw kept (IsPermutation-refl (map told hands)) }

-- two lists of hands side by side
pub TellSame-append : {H F : Type 0} (told : H → Option F) (old new others others' : List H) → TellSame told old new → TellSame told others others' → TellSame told (old ++ others) (new ++ others')
TellSame-append told old new others others' a b = record { same = rw (map-append told old others, map-append told new others') (IsPermutation-append _ _ _ _ a.same b.same) }

-- the order of the hands doesn't matter, before or now
pub TellSame-IsPermutation : {H F : Type 0} (told : H → Option F) (old old' new new' : List H) → IsPermutation old old' → IsPermutation new new' → TellSame told old new → TellSame told old' new'
TellSame-IsPermutation told old old' new new' before now a =
    let from = IsPermutation-sym _ _ (IsPermutation-map told old old' before) in
    record { same = IsPermutation-trans _ _ _ from (IsPermutation-trans _ _ _ a.same (IsPermutation-map told new new' now)) }

-- where all told this, all tell it
pub AllTellThat-then : {H F : Type 0} (told : H → Option F) (this : F) (old new : List H) → TellSame told old new → AllTellThat told this old → AllTellThat told this new
AllTellThat-then {F = F} told this old new a all =
    let P : Option F → Type 0 = λ t. t ≡ Some this in
    all_unmap P told new (All-permutation P (map told old) (map told new) a.same (All-map P told old all))

-- where all told something, all tell something
pub AllTell-then : {H F : Type 0} (told : H → Option F) (old new : List H) → TellSame told old new → All (λ hand. IsSome (told hand)) old → All (λ hand. IsSome (told hand)) new
AllTell-then {F = F} told old new a all =
    let P : Option F → Type 0 = λ t. IsSome t in
    all_unmap P told new (All-permutation P (map told old) (map told new) a.same (All-map P told old all))

-- ## What lists gained

pub Gained-none : {H E : Type 0} (told : H → Option (List E)) (hands : List H) → Gained told hands hands []
Gained-none told hands = record { tell = λ h. h; by = λ h. rw append-nil (IsPermutation-refl (entries_of told hands)) }

pub Gained-then : {H E : Type 0} (told : H → Option (List E)) (old mid new : List H) (first second : List E) → Gained told old mid first → Gained told mid new second → Gained told old new (first ++ second)
Gained-then told old mid new first second a b = record {
  tell = λ h. a.tell (b.tell h);
  by = λ h. subst (λ before. IsPermutation before (entries_of told new)) (append_assoc (entries_of told old) first second) (IsPermutation-trans _ _ _ (IsPermutation-append_left second _ _ (a.by (b.tell h))) (b.by h));
}

-- the order of what was gained doesn't matter
pub Gained-reordered : {H E : Type 0} (told : H → Option (List E)) (old new : List H) (entries entries' : List E) → IsPermutation entries entries' → Gained told old new entries → Gained told old new entries'
Gained-reordered told old new entries entries' same a = record {
  tell = a.tell;
  by = λ h. IsPermutation-trans _ _ _ (IsPermutation-append_right (entries_of told old) _ _ (IsPermutation-sym _ _ same)) (a.by h);
}

-- one hand alone
pub Gained-one : {H E : Type 0} (told : H → Option (List E)) (old new : H) (entries : List E) → told new ≡ option_map (λ before. before ++ entries) (told old) → Gained told (old ∷ []) (new ∷ []) entries
Gained-one {H = H} {E = E} told old new entries is = by (told old) refl
  where
    held : (hand : H) (list : List E) → told hand ≡ Some list → entries_of told (hand ∷ []) ≡ list
    held hand list is' = append-nil (unwrap_or (told hand) []) ∙ ap (λ tells. unwrap_or tells []) is'

    by : (before : Option (List E)) → told old ≡ before → Gained told (old ∷ []) (new ∷ []) entries
    by None was =
        let untold : told new ≡ None = is ∙ ap (option_map (λ before. before ++ entries)) was in
        let absent : AllTell told (new ∷ []) → ⊥ = λ h. cc (All-head (λ hand. IsSome (told hand)) new [] h, untold) in
        record { tell = λ h. absurd (absent h); by = λ h. absurd (absent h) }
    by (Some before) was =
        let grown : told new ≡ Some (before ++ entries) = is ∙ ap (option_map (λ list. list ++ entries)) was in
        record {
          tell = λ h. All-cons (λ hand. IsSome (told hand)) old [] (ap is_some was) (All-nil (λ hand. IsSome (told hand)));
          by = λ h. subst (IsPermutation (entries_of told (old ∷ []) ++ entries)) (ap (λ list. list ++ entries) (held old before was) ∙ sym (held new (before ++ entries) grown)) (IsPermutation-refl (entries_of told (old ∷ []) ++ entries));
        }

-- two lists of hands side by side
pub Gained-append : {H E : Type 0} (told : H → Option (List E)) (old new others others' : List H) (first second : List E) → Gained told old new first → Gained told others others' second → Gained told (old ++ others) (new ++ others') (first ++ second)
Gained-append {H = H} {E = E} told old new others others' first second a b =
    let P : H → Type 0 = λ hand. IsSome (told hand) in
    let list : H → List E = λ hand. unwrap_or (told hand) [] in
    let both : AllTell told (new ++ others') → IsPermutation ((entries_of told old ++ first) ++ (entries_of told others ++ second)) (entries_of told new ++ entries_of told others')
    = λ h. IsPermutation-append _ _ _ _ (a.by (all_left P new others' h)) (b.by (all_right P new others' h)) in
    record {
      tell = λ h. All-append P old others (a.tell (all_left P new others' h)) (b.tell (all_right P new others' h));
      by = λ h. rw (flat_map-append list old others, flat_map-append list new others') (IsPermutation-trans _ _ _ (middle_turned (entries_of told old) (entries_of told others) first second) (both h));
    }

-- one hand of several
pub Gained-set : {H E : Type 0} (told : H → Option (List E)) (hands : List H) (k : ℕ) (hand d : H) (entries : List E) → k < length hands → told hand ≡ option_map (λ before. before ++ entries) (told (get_or hands k d)) → Gained told hands (set hands k hand) entries
Gained-set {H = H} {E = E} told hands k hand d entries inside is =
    let front = take k hands in
    let x = get_or hands k d in
    let back = drop (k + 1) hands in
    let long : length front ≡ k = length-take-le k hands (omega arith) in
    let whole : hands ≡ front ++ x ∷ back = sym (rw (sym (drop_more hands k d inside)) (take-append-drop k hands)) in
    let changed : set hands k hand ≡ front ++ hand ∷ back = ap (λ l. set l k hand) whole ∙ set_at front x back hand k long in
    let one = Gained-append told (x ∷ []) (hand ∷ []) back back entries [] (Gained-one told x hand entries is) (Gained-none told back) in
    let all = Gained-append told front front (x ∷ back) (hand ∷ back) [] (entries ++ []) (Gained-none told front) one in
    let same : Gained told (front ++ x ∷ back) (front ++ hand ∷ back) entries = subst (Gained told (front ++ x ∷ back) (front ++ hand ∷ back)) (append-nil entries) all in
    let P : List H → Type 0 = λ l. Gained told l (set hands k hand) entries in
    let Q : List H → Type 0 = λ l. Gained told (front ++ x ∷ back) l entries in
    subst P (sym whole) (subst Q (sym changed) same)

-- the order of the hands doesn't matter, before or now
pub Gained-IsPermutation : {H E : Type 0} (told : H → Option (List E)) (old old' new new' : List H) (entries : List E) → IsPermutation old old' → IsPermutation new new' → Gained told old new entries → Gained told old' new' entries
Gained-IsPermutation {H = H} {E = E} told old old' new new' entries before now a =
    let P : H → Type 0 = λ hand. IsSome (told hand) in
    let list : H → List E = λ hand. unwrap_or (told hand) [] in
    let back : AllTell told new' → AllTell told new = All-permutation P new' new (IsPermutation-sym new new' now) in
    let from = IsPermutation-append_left entries _ _ (flat_map-IsPermutation list old' old (IsPermutation-sym old old' before)) in
    record {
      tell = λ h. All-permutation P old old' before (a.tell (back h));
      by = λ h. IsPermutation-trans _ _ _ from (IsPermutation-trans _ _ _ (a.by (back h)) (flat_map-IsPermutation list new new' now));
    }

-- a count that rose, and doesn't stand at its end, is one more at least
pub Rose-one : (before now : ℕ) → Rose before now → now < 2 ^ 64 - 1 → before + 1 ≤ now
Rose-one before now rose below = omega (arith, rose, below)
