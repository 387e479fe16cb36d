use Rattle.std.proofs.Common.{◌∙◌, Option, ap}
use Rattle.byte_frame.specs.Reading.{◌>>=◌}
use Rattle.byte_frame.specs.Frames.{Frame}
use Rattle.step_files.specs.Files.{body_in}
use Rattle.step_files.proofs.files.take_body.Goals as goal

pub returns-in-Ok : goal.returns-in-Ok
returns-in-Ok c = c.body_with.ensures ∙ ap (λ (o : Option Frame). o >>= λ f. body_in c.args.digest.now f) c.in-Ok.ensures.reads

pub returns-in-Err : goal.returns-in-Err
returns-in-Err c = ap (λ (o : Option Frame). o >>= λ f. body_in c.args.digest.now f) c.in-Err.ensures.reads
