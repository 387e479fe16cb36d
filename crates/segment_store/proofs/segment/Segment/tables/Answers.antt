use Rattle.std.proofs.Common.{subst}
use Rattle.segment_store.specs.Laws.{MeansRows}
use Rattle.segment_store.specs.Segments.{rows_from}
use Rattle.segment_store.specs.declared.parts.SegmentParts.{SegmentParts}
use Rattle.segment_store.proofs.Means.{segment_means_rows}
use Rattle.segment_store.proofs.segment.Segment.tables.Goals as goal

pub returns-clause-meaning : goal.returns-clause-meaning
returns-clause-meaning g c honest =
    let parts : SegmentParts = c.self.inside.parts in
    subst (λ (s : SegmentParts). MeansRows s (rows_from s.origin)) c.self.view_is (segment_means_rows parts (rows_from parts.origin) c.self.invariant.0 (c.self.invariant.1 honest))
