use Rattle.run_history.proofs.Flights.{claims_world}
use Rattle.run_history.proofs.Sound.{sound_world}
use Rattle.run_history.proofs.histories.sound_histories.Goals as goal

pub returns-clause-claims : goal.returns-clause-claims
returns-clause-claims g c = λ cube steps workers initial turns from legal. claims_world cube steps workers initial turns from legal

pub returns-clause-sound : goal.returns-clause-sound
returns-clause-sound g c = λ cube steps workers initial turns from legal. sound_world cube steps workers initial turns from legal
