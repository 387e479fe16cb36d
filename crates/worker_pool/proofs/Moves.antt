-- Starts and ends of pieces, in the two lists of a pool.
use Rattle.std.proofs.Common.{◌≡◌, ◌++◌, List, sym, subst}
use Rattle.worker_pool.proofs.Lists.{without-before, without-behind}
use Rattle.worker_pool.specs.Lists.{IsWithout}
use Rattle.worker_pool.specs.Pools.{HasLeft, InFlight, IsLanded, IsStarted, PoolModel, in_flight_of}
use Rattle.worker_pool.specs.declared.piece.Piece.{Piece}
use Rattle.worker_pool.specs.declared.piece.PieceEnd.{PieceEnd}

abbrev pub pool_of : {H Q : Type 0} → List H → List (InFlight H Q) → PoolModel H Q
pool_of free in_flight = record { free = free; in_flight = in_flight }

module _ {H Q : Type 0} (hand : H) (piece : Piece Q) (old_free free : List H) (taken : IsWithout hand old_free free) (flight : InFlight H Q) (is : flight ≡ in_flight_of hand piece) where
  -- a thread does the piece
  pub started-away : (done flights done2 flights2 new : List (InFlight H Q)) → done2 ≡ done → flights2 ≡ flights → IsWithout flight new flights2 → IsStarted piece (pool_of old_free (done ++ flights)) (pool_of free (done2 ++ new))
  started-away done flights done2 flights2 new e f w =
      let here : IsWithout flight new flights = subst (λ (l : List (InFlight H Q)). IsWithout flight new l) f w in
      subst (λ (l : List (InFlight H Q)). IsStarted piece (pool_of old_free (done ++ flights)) (pool_of free (l ++ new))) (sym e) (record {
        hand = hand;
        taken = taken;
        started = subst (λ (x : InFlight H Q). IsWithout x (done ++ new) (done ++ flights)) is (without-behind flight done new flights here);
      })

  -- it is done already
  pub started-here : (done flights done2 flights2 new : List (InFlight H Q)) → done2 ≡ done → flights2 ≡ flights → IsWithout flight new done2 → IsStarted piece (pool_of old_free (done ++ flights)) (pool_of free (new ++ flights2))
  started-here done flights done2 flights2 new e f w =
      let here : IsWithout flight new done = subst (λ (l : List (InFlight H Q)). IsWithout flight new l) e w in
      subst (λ (l : List (InFlight H Q)). IsStarted piece (pool_of old_free (done ++ flights)) (pool_of free (new ++ l))) (sym f) (record {
        hand = hand;
        taken = taken;
        started = subst (λ (x : InFlight H Q). IsWithout x (new ++ flights) (done ++ flights)) is (without-before flight new done flights here);
      })

module _ {H Q E : Type 0} (answered : H → Piece Q → PieceEnd E → H → Type 0) (end : PieceEnd E) (hand : H) (old_free free : List H) (back : IsWithout hand free old_free) where
  -- a thread's piece has ended
  pub landed-away : (done flights new : List (InFlight H Q)) → HasLeft answered end hand flights new → IsLanded answered end (pool_of old_free (done ++ flights)) (pool_of free (done ++ new))
  landed-away done flights new left = record {
    hand = hand;
    ended = record { flight = left.flight; left = without-behind left.flight done flights new left.left; answer = left.answer };
    back = back;
  }

  -- a piece that was done when it was started
  pub landed-here : (done flights new : List (InFlight H Q)) → HasLeft answered end hand done new → IsLanded answered end (pool_of old_free (done ++ flights)) (pool_of free (new ++ flights))
  landed-here done flights new left = record {
    hand = hand;
    ended = record { flight = left.flight; left = without-before left.flight done new flights left.left; answer = left.answer };
    back = back;
  }
