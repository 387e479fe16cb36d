-- What starts and ends do to all hands and to all pieces.
use Rattle.std.proofs.Common.{◌≡◌, ◌+◌, ◌-◌, ◌^◌, ◌++◌, ◌<◌, ◌≤◌, ℕ, List, [], ◌∷◌, map, Option, append-nil, subst, refl, arith}
use Rattle.std.specs.Prelude.{option_map}
use Rattle.std.specs.List.Sorted.{IsPermutation}
use Rattle.std.proofs.lemmas.List.Sorted.{IsPermutation-append_left, IsPermutation-append_right, IsPermutation-refl, IsPermutation-sym, IsPermutation-trans}
use Rattle.outside.specs.Rises.{Gained, Risen, TellSame}
use Rattle.outside.proofs.Rises.{Gained-IsPermutation, Gained-append, Gained-none, Gained-one, Risen-IsPermutation, Risen-append, Risen-fewer, Risen-none, Risen-one, TellSame-IsPermutation, TellSame-append, TellSame-none, TellSame-set}
use Rattle.worker_pool.proofs.Lists.{without-first, without-map}
use Rattle.worker_pool.specs.Lists.{IsWithout}
use Rattle.worker_pool.specs.Pools.{InFlight, IsLanded, IsStarted, PoolModel, hands, in_flight_of, pieces}
use Rattle.worker_pool.specs.declared.piece.Piece.{Piece}
use Rattle.worker_pool.specs.declared.piece.PieceEnd.{PieceEnd}

-- ## A start

-- a hand that is away is one of all hands
pub started-hands : {H Q : Type 0} (piece : Piece Q) (old new : PoolModel H Q) → IsStarted piece old new → IsPermutation (hands old) (hands new)
started-hands {H = H} {Q = Q} piece old new s =
    let hand_of : InFlight H Q → H = λ flight. flight.hand in
    let away = map hand_of old.in_flight in
    let were = IsPermutation-append_left away _ _ (IsPermutation-sym _ _ (without-first s.hand old.free new.free s.taken)) in
    let moved = without-first s.hand (new.free ++ s.hand ∷ away) (new.free ++ away) (record { front = new.free; back = away; before = refl; after = refl }) in
    let are = IsPermutation-append_right new.free _ _ (without-first s.hand (map hand_of new.in_flight) away (without-map hand_of (in_flight_of s.hand piece) new.in_flight old.in_flight s.started)) in
    IsPermutation-trans _ _ _ were (IsPermutation-trans _ _ _ moved are)

pub started-pieces : {H Q : Type 0} (piece : Piece Q) (old new : PoolModel H Q) → IsStarted piece old new → IsWithout piece (pieces new) (pieces old)
started-pieces {H = H} {Q = Q} piece old new s =
    let piece_of : InFlight H Q → Piece Q = λ flight. flight.piece in
    without-map piece_of (in_flight_of s.hand piece) new.in_flight old.in_flight s.started

pub Risen-started : {H Q : Type 0} (count : H → ℕ) (piece : Piece Q) (old new : PoolModel H Q) → IsStarted piece old new → Risen count (hands old) (hands new) 0
Risen-started count piece old new s = Risen-IsPermutation count (hands old) (hands old) (hands old) (hands new) 0 (IsPermutation-refl (hands old)) (started-hands piece old new s) (Risen-none count (hands old))

pub TellSame-started : {H Q F : Type 0} (told : H → Option F) (piece : Piece Q) (old new : PoolModel H Q) → IsStarted piece old new → TellSame told (hands old) (hands new)
TellSame-started told piece old new s = TellSame-IsPermutation told (hands old) (hands old) (hands old) (hands new) (IsPermutation-refl (hands old)) (started-hands piece old new s) (TellSame-none told (hands old))

pub Gained-started : {H Q E : Type 0} (told : H → Option (List E)) (piece : Piece Q) (old new : PoolModel H Q) → IsStarted piece old new → Gained told (hands old) (hands new) []
Gained-started told piece old new s = Gained-IsPermutation told (hands old) (hands old) (hands old) (hands new) [] (IsPermutation-refl (hands old)) (started-hands piece old new s) (Gained-none told (hands old))

-- ## An end

-- the hands that an end has nothing to do with
abbrev pub other_hands : {H Q : Type 0} → PoolModel H Q → PoolModel H Q → List H
other_hands old new = old.free ++ map (λ flight. flight.hand) new.in_flight

-- the hand that came back, as it was when it was given its piece, and the others
pub landed-before : {H Q E : Type 0} (answered : H → Piece Q → PieceEnd E → H → Type 0) (end : PieceEnd E) (old new : PoolModel H Q) (l : IsLanded answered end old new) → IsPermutation (l.ended.flight.hand ∷ other_hands old new) (hands old)
landed-before {H = H} {Q = Q} answered end old new l =
    let hand_of : InFlight H Q → H = λ flight. flight.hand in
    let away = map hand_of new.in_flight in
    let hand = l.ended.flight.hand in
    let moved = without-first hand (old.free ++ hand ∷ away) (old.free ++ away) (record { front = old.free; back = away; before = refl; after = refl }) in
    IsPermutation-trans _ _ _ moved (IsPermutation-append_right old.free _ _ (without-first hand (map hand_of old.in_flight) away (without-map hand_of l.ended.flight old.in_flight new.in_flight l.ended.left)))

-- the same hand as it came back, and the others
pub landed-after : {H Q E : Type 0} (answered : H → Piece Q → PieceEnd E → H → Type 0) (end : PieceEnd E) (old new : PoolModel H Q) (l : IsLanded answered end old new) → IsPermutation (l.hand ∷ other_hands old new) (hands new)
landed-after {H = H} {Q = Q} answered end old new l =
    let hand_of : InFlight H Q → H = λ flight. flight.hand in
    IsPermutation-append_left (map hand_of new.in_flight) _ _ (without-first l.hand new.free old.free l.back)

pub landed-pieces : {H Q E : Type 0} (answered : H → Piece Q → PieceEnd E → H → Type 0) (end : PieceEnd E) (old new : PoolModel H Q) (l : IsLanded answered end old new) → IsWithout l.ended.flight.piece (pieces old) (pieces new)
landed-pieces {H = H} {Q = Q} answered end old new l =
    let piece_of : InFlight H Q → Piece Q = λ flight. flight.piece in
    without-map piece_of l.ended.flight old.in_flight new.in_flight l.ended.left

pub Risen-landed : {H Q E : Type 0} (count : H → ℕ) (answered : H → Piece Q → PieceEnd E → H → Type 0) (end : PieceEnd E) (old new : PoolModel H Q) (n : ℕ) (l : IsLanded answered end old new) → (count l.hand < 2 ^ 64 - 1 → count l.ended.flight.hand + n ≤ count l.hand) → Risen count (hands old) (hands new) n
Risen-landed count answered end old new n l rise =
    let others = other_hands old new in
    let all = Risen-append count (l.ended.flight.hand ∷ []) (l.hand ∷ []) others others n 0 (Risen-one count l.ended.flight.hand l.hand n rise) (Risen-none count others) in
    Risen-IsPermutation count (l.ended.flight.hand ∷ others) (hands old) (l.hand ∷ others) (hands new) n (landed-before answered end old new l) (landed-after answered end old new l)
    (Risen-fewer count (l.ended.flight.hand ∷ others) (l.hand ∷ others) (n + 0) n (omega arith) all)

pub TellSame-landed : {H Q E F : Type 0} (told : H → Option F) (answered : H → Piece Q → PieceEnd E → H → Type 0) (end : PieceEnd E) (old new : PoolModel H Q) (l : IsLanded answered end old new) → told l.hand ≡ told l.ended.flight.hand → TellSame told (hands old) (hands new)
TellSame-landed told answered end old new l same =
    let others = other_hands old new in
    let all = TellSame-append told (l.ended.flight.hand ∷ []) (l.hand ∷ []) others others (TellSame-set told (l.ended.flight.hand ∷ []) 0 l.hand l.ended.flight.hand (omega arith) same) (TellSame-none told others) in
    TellSame-IsPermutation told (l.ended.flight.hand ∷ others) (hands old) (l.hand ∷ others) (hands new) (landed-before answered end old new l) (landed-after answered end old new l) all

pub Gained-landed : {H Q E F : Type 0} (told : H → Option (List F)) (answered : H → Piece Q → PieceEnd E → H → Type 0) (end : PieceEnd E) (old new : PoolModel H Q) (entries : List F) (l : IsLanded answered end old new) → told l.hand ≡ option_map (λ before. before ++ entries) (told l.ended.flight.hand) → Gained told (hands old) (hands new) entries
Gained-landed told answered end old new entries l gained =
    let others = other_hands old new in
    let all = Gained-append told (l.ended.flight.hand ∷ []) (l.hand ∷ []) others others entries [] (Gained-one told l.ended.flight.hand l.hand entries gained) (Gained-none told others) in
    Gained-IsPermutation told (l.ended.flight.hand ∷ others) (hands old) (l.hand ∷ others) (hands new) entries (landed-before answered end old new l) (landed-after answered end old new l)
    (subst (Gained told (l.ended.flight.hand ∷ others) (l.hand ∷ others)) (append-nil entries) all)
