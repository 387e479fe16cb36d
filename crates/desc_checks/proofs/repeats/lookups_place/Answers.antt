use Rattle.std.proofs.Common.{[], ◌∷◌}
use Rattle.desc_checks.proofs.repeats.lookups_place.Goals as goal

pub returns : goal.returns
returns c = rw (← c.as_slice.ensures) (c.first_along.ensures (c.args.raw.now.fact_table.text ∷ []) (rw c.in_ok-text.ensures at (c.in_ok-_is_new.ensures.seen [] c.new-seen.ensures)))
