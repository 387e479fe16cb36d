use Rattle.std.proofs.Common.{sym, subst}
use Rattle.plain_answer.specs.Asks.{IsSound}
use Rattle.query_bind.proofs.SoundFacts.{sound, wide_is_long}
use Rattle.query_bind.proofs.binding.bound.Goals as goal

pub ask_of-requires : goal.ask_of-requires
ask_of-requires c = wide_is_long c.args.scope.now.parts.now c.requires.sound

pub returns-clause-sound : goal.returns-clause-sound
returns-clause-sound c = subst IsSound (sym c.in_ok-ask.ensures) (sound c.args.scope.now.parts.now c.args.scope.now.query.now c.requires.sound c.requires.faultless)
