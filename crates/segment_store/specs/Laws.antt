-- What the tables of every segment of joined rows mean.
use Rattle.std.specs.Prelude.{◌≡◌, List, All}
use Rattle.cube_val.specs.declared.val.Val.{Val}
use Rattle.layer_builder.specs.Meanings.{meaning, value_rows}
use Rattle.segment_store.specs.Segments.{IsOfRows, IsSegment}
use Rattle.segment_store.specs.declared.parts.SegmentParts.{SegmentParts}

-- read over the segment's dictionaries, each table is the aggregate of the rows by its dimensions
abbrev pub MeansRows : SegmentParts → List (List Val) → Type 0
MeansRows s rows = All (λ t. meaning s.kept s.dicts t.mask t.rows ≡ value_rows s.kept t.mask rows) s.tables

abbrev pub SegmentsMeanRows : Type 0
SegmentsMeanRows = (s : SegmentParts) (rows : List (List Val)) → IsSegment s → IsOfRows s rows → MeansRows s rows
