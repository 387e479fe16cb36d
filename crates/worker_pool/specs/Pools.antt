-- Pools, and what starts and ends change in them.
use Rattle.std.specs.Prelude.{◌++◌, List, map}
use Rattle.worker_pool.specs.Lists.{IsWithout}
use Rattle.worker_pool.specs.declared.piece.Piece.{Piece}
use Rattle.worker_pool.specs.declared.piece.PieceEnd.{PieceEnd}

-- a piece in flight, with its hand as it was when it was given the piece
pub record InFlight (H Q : Type 0) : Type 0 where
  pub hand : H
  pub piece : Piece Q

abbrev pub in_flight_of : {H Q : Type 0} → H → Piece Q → InFlight H Q
in_flight_of hand piece = record { hand = hand; piece = piece }

-- the free hands, and the pieces in flight
pub record PoolModel (H Q : Type 0) : Type 0 where
  pub free : List H
  pub in_flight : List (InFlight H Q)

-- all hands, wherever they are
abbrev pub hands : {H Q : Type 0} → PoolModel H Q → List H
hands pool = pool.free ++ map (λ flight. flight.hand) pool.in_flight

-- the pieces of work in flight
abbrev pub pieces : {H Q : Type 0} → PoolModel H Q → List (Piece Q)
pieces pool = map (λ flight. flight.piece) pool.in_flight

-- a free hand went with this piece, and nothing else changed
pub record IsStarted {H Q : Type 0} (piece : Piece Q) (old new : PoolModel H Q) : Type 0 where
  pub hand : H
  pub taken : IsWithout hand old.free new.free
  pub started : IsWithout (in_flight_of hand piece) new.in_flight old.in_flight

-- one of the pieces in flight came to this end, by an answer of its hand, and left the list
pub record HasLeft {H Q E : Type 0} (answered : H → Piece Q → PieceEnd E → H → Type 0) (end : PieceEnd E) (hand : H) (old new : List (InFlight H Q)) : Type 0 where
  pub flight : InFlight H Q
  pub left : IsWithout flight old new
  pub answer : answered flight.hand flight.piece end hand

-- a piece in flight came to this end, its hand came back, and nothing else changed
pub record IsLanded {H Q E : Type 0} (answered : H → Piece Q → PieceEnd E → H → Type 0) (end : PieceEnd E) (old new : PoolModel H Q) : Type 0 where
  pub hand : H
  pub ended : HasLeft answered end hand old.in_flight new.in_flight
  pub back : IsWithout hand new.free old.free
