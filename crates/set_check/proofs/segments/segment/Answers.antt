use Rattle.set_check.proofs.PartFacts.{is_of_sources_of, is_segment_of}
use Rattle.set_check.proofs.segments.segment.Goals as goal

pub seal-requires-clause-segment : goal.seal-requires-clause-segment
seal-requires-clause-segment c = is_segment_of c.in_ok-parts.parts c.args.range c.args.job c.in_ok-parts.ensures

pub seal-requires-clause-honest : goal.seal-requires-clause-honest
seal-requires-clause-honest c honest = is_of_sources_of c.in_ok-parts.parts c.args.range c.args.job c.in_ok-parts.ensures
