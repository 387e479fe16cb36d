use Rattle.std.proofs.Common.{refl}
use Rattle.byte_frame.specs.FrameReading.{before_digest_at}
use Rattle.byte_frame.proofs.examples.worked_frames.Goals as goal

pub returns-clause-taken : goal.returns-clause-taken
unfolding before_digest_at
returns-clause-taken c = refl

pub returns-clause-cut : goal.returns-clause-cut
unfolding before_digest_at
returns-clause-cut c = refl

pub returns-clause-more : goal.returns-clause-more
unfolding before_digest_at
returns-clause-more c = refl

pub returns-clause-magic : goal.returns-clause-magic
unfolding before_digest_at
returns-clause-magic c = refl
