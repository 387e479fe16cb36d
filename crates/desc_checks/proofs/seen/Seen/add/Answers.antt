use Rattle.std.proofs.Common.{refl}
use Rattle.desc_checks.proofs.AlongLemmas.{seen_more}
use Rattle.desc_checks.proofs.seen.Seen.add.Goals as goal

pub returns-clause-seen : goal.returns-clause-seen
returns-clause-seen c = λ earlier h. seen_more c.args.text _ _ _ earlier refl c.in_ok-added.ensures.updates h
