pub mod LocalHand
