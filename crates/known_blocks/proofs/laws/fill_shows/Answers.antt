use Rattle.std.proofs.Common.{◌≡◌, true}
use Rattle.known_blocks.proofs.Filled.{shows-filled}
use Rattle.known_blocks.proofs.laws.fill_shows.Goals as goal

pub returns : goal.returns
returns c = λ sure entries shown line block said count is h. shows-filled (λ other. sure other ≡ true) line block said is entries shown count h
