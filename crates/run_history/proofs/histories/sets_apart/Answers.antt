use Rattle.run_history.proofs.Sound.{sound_world}
use Rattle.run_history.proofs.histories.sets_apart.Goals as goal

pub returns : goal.returns
returns g c = λ cube steps workers initial turns from legal version. (sound_world cube steps workers initial turns from legal).set_apart version
