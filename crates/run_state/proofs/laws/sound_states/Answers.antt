use Rattle.run_state.proofs.SoundStates.{queued}
use Rattle.run_state.proofs.laws.sound_states.Goals as goal

pub returns : goal.returns
returns g c = λ cube rows ready_set w s sound i. queued cube rows ready_set w s sound i
