-- The segments that lines make keep what segments keep, and their tables are those of their rows.
use Rattle.std.proofs.Common.{◌≡◌, ◌<◌, ℕ, zero, suc, List, [], ◌∷◌, All, length, refl, sym, subst, arith}
use Rattle.cell_store.specs.Cells.{CellRows}
use Rattle.cube_val.specs.declared.form.WideCol.{WideCol}
use Rattle.cube_val.specs.declared.val.Val.{Val}
use Rattle.layer_builder.specs.Cuboids.{IsCuboid}
use Rattle.plain_answer.specs.declared.ask.Agg.{Agg}
use Rattle.range_list.specs.Ranges.{Interval}
use Rattle.segment_store.specs.Segments.{IsKept, IsOfSources, IsSegment, IsServedBy, IsTableOf, plan_of, width_of}
use Rattle.segment_store.specs.Sources.{HasDate, IsColumn, IsSource, Source}
use Rattle.segment_store.specs.declared.parts.SegmentParts.{SegmentParts}
use Rattle.set_check.specs.Parts.{count_of_rows, empty_table, job_parts, job_plan, job_row, job_source}

all_one : {X : Type 0} (P : X → Type 0) (x : X) → P x → All P (x ∷ [])
all_one P x p zero d lt = p
all_one P x p (suc k) d lt = absurd (omega arith)

module _ (range : Interval) (job : ℕ) where
  abbrev here : Source
  here = job_source range job

  abbrev parts : SegmentParts
  parts = job_parts range job

  abbrev column : WideCol
  column = record { table = 0; column = 1 }

  pub is_source : IsSource (job_source range job)
  is_source = record {
    tables = refl;
    partition = all_one (HasDate 0) (job_row job) (omega arith, tt);
    joins = tt;
    wide = all_one (IsColumn here) column (record { table = omega arith; column = all_one (λ (row : List Val). 1 < length row) (job_row job) (omega arith) });
  }

  is_table : IsTableOf parts empty_table
  is_table = record { forms = refl; within = λ d e. e; rows = λ k d lt. absurd (omega arith); few = omega arith }

  pub is_segment : IsSegment (job_parts range job)
  is_segment = record {
    some = omega arith;
    few = omega arith;
    sources = all_one IsSource here is_source;
    one_plan = all_one (λ (source : Source). source.plan ≡ plan_of parts) here refl;
    counted = refl;
    kept = all_one (λ (agg : Agg). IsKept (length (plan_of parts).wide) agg.kind agg.column) count_of_rows tt;
    dicts = omega arith;
    width = omega arith;
    lookups = refl;
    served = all_one (IsServedBy (width_of parts) parts.lookups) here (λ lookup j entries at. cc);
    rising = λ i j d lt within. absurd (omega arith);
    base = (0, omega arith, refl);
    tables = all_one (IsTableOf parts) empty_table is_table;
  }

  pub is_of_sources : IsOfSources (job_parts range job)
  is_of_sources = record {
    dicts = refl;
    tables = all_one (λ (t : CellRows). IsCuboid parts.kept parts.dicts [] t.mask t) empty_table (record { mask = refl; forms = refl; rows = refl });
  }

-- parts that are these
pub is_segment_of : (those : SegmentParts) (range : Interval) (job : ℕ) → those ≡ job_parts range job → IsSegment those
is_segment_of those range job same = subst IsSegment (sym same) (is_segment range job)

pub is_of_sources_of : (those : SegmentParts) (range : Interval) (job : ℕ) → those ≡ job_parts range job → IsOfSources those
is_of_sources_of those range job same = subst IsOfSources (sym same) (is_of_sources range job)
