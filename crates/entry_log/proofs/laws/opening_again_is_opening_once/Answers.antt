use Rattle.entry_log.proofs.OneLog as one_log
use Rattle.entry_log.proofs.laws.opening_again_is_opening_once.Goals as goal

pub returns : goal.returns
returns c = λ file left bodies other whole still read.
    let again = still bodies whole in
    let same = one_log.logs_are_one left other bodies read.0 again.0 read.1 again.1 in
    same.0
