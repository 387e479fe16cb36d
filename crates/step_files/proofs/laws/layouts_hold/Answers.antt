use Rattle.step_files.proofs.LayoutFacts.{layouts_hold}
use Rattle.step_files.proofs.laws.layouts_hold.Goals as goal

pub returns : goal.returns
returns c = layouts_hold
