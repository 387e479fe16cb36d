use Rattle.std.proofs.Common.{◌≡◌, ◌+◌, ◌++◌, ◌∷◌, [], arith, ◌∙◌, ap, sym, Ok, Err, length, length-append, inl, inr}
use Rattle.csv.specs.Records.{fields_of}
use Rattle.cube_val.specs.declared.val.Val.{Val}
use Rattle.table_reader.specs.Rows.{IsRowOf, WritesCell, field_of}
use Rattle.table_reader.specs.declared.header.Column.{Column}
use Rattle.table_reader.proofs.DigestFacts.{digests_of-empty}
use Rattle.table_reader.proofs.RowFacts.{zip_length, zip_push}
use Rattle.table_reader.proofs.body.read_body.Goals as goal

pub loop-turn-init : goal.loop-turn-init
loop-turn-init c = (
  ap length c.in_ok-rows.ensures.items,
  λ bytes header has. ([], has, rw c.in_ok-rows.ensures.items tt),
  rw c.in_ok-rows.ensures.items (c.in_ok-digests.ensures ∙ sym (digests_of-empty c.args.key.now)),
)

pub add_digest-requires : goal.add_digest-requires
add_digest-requires c =
    let columns = c.args.columns.now in
    let row = c.in-Ok.row in
    let fields = fields_of c.read_next.new.found in
    let size : length row ≡ length columns = zip_length (λ (column : Column) (v : Val). WritesCell column (field_of fields column) v) columns row c.in-Ok.ensures.ok.1 in
    λ k d h. let small = c.requires k d h in omega arith

pub returns-in-Ok-false-clause-body : goal.returns-in-Ok-false-clause-body
returns-in-Ok-false-clause-body c = λ bytes header has.
    let so_far = c.loop-turn.invariant.1 bytes header has in
    record {
      records = so_far.0;
      written = so_far.2;
      few = omega (arith, c.loop-turn.invariant.0);
      stop = c.read_next.ensures.last (c.in-Ok-false.is ∙ ap Ok c.in-Ok-false.field-0-test) bytes (header ∷ so_far.0) so_far.1;
    }

pub returns-in-Err-Fault-clause-body : goal.returns-in-Err-Fault-clause-body
returns-in-Err-Fault-clause-body c = λ bytes header has.
    let so_far = c.loop-turn.invariant.1 bytes header has in
    let read = c.read_next.ensures.more (c.in-Ok-true.is ∙ ap Ok c.in-Ok-true.field-0-test) bytes (header ∷ so_far.0) so_far.1 in
    rw c.in-Err-Fault.fault-is
    record {
      records = so_far.0;
      written = so_far.2;
      few = omega (arith, c.loop-turn.invariant.0);
      stop = (
        fields_of c.read_next.new.found,
        (c.read_next.new.reader.state, read.left, read.reached),
        rw c.loop-turn.invariant.0 (inr (omega arith, c.in-Err-Fault.ensures.fault c.in-Err-Fault.fault (ap Err c.in-Err-Fault.field-0-is))),
      );
    }

pub loop-turn-preserved : goal.loop-turn-preserved
loop-turn-preserved c =
    let rows = c.loop-turn.rows.items in
    let row = c.in-Ok.row in
    let fields = fields_of c.read_next.new.found in
    let added : c.push.new.self.items ≡ rows ++ row ∷ [] = c.in_ok-push.ensures.items in (
      rw added (length-append rows (row ∷ []) ∙ ap (λ n. n + 1) c.loop-turn.invariant.0),
      λ bytes header has.
          let so_far = c.loop-turn.invariant.1 bytes header has in
          let read = c.read_next.ensures.more (c.in-Ok-true.is ∙ ap Ok c.in-Ok-true.field-0-test) bytes (header ∷ so_far.0) so_far.1 in
          (so_far.0 ++ fields ∷ [], read, rw added (zip_push (IsRowOf c.args.columns.now c.args.width) so_far.0 rows fields row so_far.2 c.in-Ok.ensures.ok)),
      rw added (c.in_ok-add_digest.ensures rows c.loop-turn.invariant.2),
    )

pub returns-in-Ok-true-read_next-clause-body : goal.returns-in-Ok-true-read_next-clause-body
returns-in-Ok-true-read_next-clause-body c = λ bytes header has.
    let so_far = c.loop-turn.invariant.1 bytes header has in
    let read = c.read_next-2.ensures.more (c.in-Ok-true-read_next.is ∙ ap Ok c.in-Ok-true-read_next.field-0-test) bytes (header ∷ so_far.0) so_far.1 in
    record {
      records = so_far.0;
      written = so_far.2;
      few = omega (arith, c.loop-turn.invariant.0);
      stop = (fields_of c.read_next-2.new.found, (c.read_next-2.new.reader.state, read.left, read.reached), inl (omega (arith, c.loop-turn.invariant.0), c.in_row-fault.ensures));
    }

pub returns-in-Ok-false-read_next-clause-body : goal.returns-in-Ok-false-read_next-clause-body
returns-in-Ok-false-read_next-clause-body c = λ bytes header has.
    let so_far = c.loop-turn.invariant.1 bytes header has in
    record {
      records = so_far.0;
      written = so_far.2;
      few = omega (arith, c.loop-turn.invariant.0);
      stop = c.read_next-2.ensures.last (c.in-Ok-false-read_next.is ∙ ap Ok c.in-Ok-false-read_next.field-0-test) bytes (header ∷ so_far.0) so_far.1;
    }
