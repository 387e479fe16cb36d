use Rattle.sql_tokens.proofs.Rising.{places_rise}
use Rattle.sql_tokens.proofs.laws.places_rise.Goals as goal

pub returns : goal.returns
returns c = places_rise
