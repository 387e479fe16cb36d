use Rattle.std.proofs.Common.{inl, refl}
use Rattle.os_objects.proofs.os_stopper.OsStopperStopper.TheImpl.Goals as goal

-- it tells no requests, before and after
pub stop-tells : goal.stop-tells
stop-tells g c = record {
  asked = c.ensures.asked;
  failed = c.ensures.failed;
  faults = c.ensures.faults;
  bounded = c.ensures.bounded;
  requested = λ _. refl;
  requested_memory = λ _. inl refl;
}
