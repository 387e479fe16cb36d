-- What a file is, from the records that were read of it.
use Rattle.std.proofs.Common.{◌≡◌, ◌<◌, ◌+◌, ℕ, List, [], ◌∷◌, ◌++◌, sym, ap, length, get_or, take, drop, inl, inr, Option, Some, None, append_assoc, arith}
use Rattle.std.specs.List.{All, AllZip}
use Rattle.std.proofs.lemmas.List.{length-take-le, take-append-drop, take_more}
use Rattle.cube_val.specs.declared.form.TableForm.{TableForm}
use Rattle.cube_val.specs.declared.val.Val.{Val}
use Rattle.table_reader.specs.Bodies.{IsBodyOf}
use Rattle.table_reader.specs.Columns.{columns_of, header_fault}
use Rattle.table_reader.specs.Keys.{AreWithin, HasDistinctKeys, Repeats}
use Rattle.table_reader.specs.Records.{BeginsWith}
use Rattle.table_reader.specs.Rows.{IsRowOf, WritesCell, field_of}
use Rattle.table_reader.specs.Tables.{IsFaultOf, IsTableOf, duplicate_key}
use Rattle.table_reader.specs.declared.fault.TableFault.{TableFault}
use Rattle.table_reader.specs.declared.header.Column.{Column}
use Rattle.table_reader.proofs.ColumnFacts.{length-columns_in}
use Rattle.table_reader.proofs.RecordFacts.{begins_front}
use Rattle.table_reader.proofs.RowFacts.{zip_at, zip_length, zip_take}

-- a file begins with its header and the first so many of the records that were read
body_begins : (columns : List Column) (width : ℕ) (bytes : List ℕ) (header : List (List ℕ)) (rows : List (List Val)) (fault : Option TableFault)
    → (b : IsBodyOf columns width bytes header rows fault) → (n : ℕ) → BeginsWith bytes (header ∷ take n b.records)
body_begins columns width bytes header rows None b n =
    begins_front bytes (header ∷ take n b.records) (drop n b.records) (rw (take-append-drop n b.records) (b.stop.0, b.stop.1, b.stop.2))
body_begins columns width bytes header rows (Some f) b n =
    begins_front bytes (header ∷ take n b.records) (drop n b.records ++ b.stop.0 ∷ [])
    (rw (← append_assoc (take n b.records) (drop n b.records) (b.stop.0 ∷ []), take-append-drop n b.records) b.stop.1)

-- the first repeated key is the fault of the file
pub repeated_is_fault : (form : TableForm) (bytes : List ℕ) (header : List (List ℕ)) (rows : List (List Val)) (fault : Option TableFault) (i : ℕ)
    → IsBodyOf (columns_of form header) (length header) bytes header rows fault → header_fault form.cols header ≡ None
    → i < length rows → HasDistinctKeys form.key (take i rows) → Repeats form.key (take i rows) (get_or rows i []) → IsFaultOf form bytes (duplicate_key (i + 1))
repeated_is_fault form bytes header rows fault i b named h distinct repeats =
    let short = length-take-le i rows (omega arith) in
    let same = zip_length (IsRowOf (columns_of form header) (length header)) b.records rows b.written in
    let few = b.few in
    let front : take (i + 1) b.records ≡ take i b.records ++ get_or b.records i [] ∷ [] = take_more b.records i [] (omega arith) in
    inr (inr record {
      header = header;
      records = take i b.records;
      fields = get_or b.records i [];
      first = rw front at (body_begins (columns_of form header) (length header) bytes header rows fault b (i + 1));
      named = named;
      rows = take i rows;
      rows_are = record {
        written = zip_take (IsRowOf (columns_of form header) (length header)) i b.records rows b.written;
        few = omega arith;
        distinct = distinct;
      };
      at_fault = inr (inr (
        omega arith,
        get_or rows i [],
        zip_at (IsRowOf (columns_of form header) (length header)) b.records rows i [] [] b.written h,
        repeats,
        ap (λ n. duplicate_key (n + 1)) (sym short),
      ));
    })

-- where no key is repeated, the fault at which reading stopped is that of the file
pub stopped_is_fault : (form : TableForm) (bytes : List ℕ) (header : List (List ℕ)) (rows : List (List Val)) (f : TableFault)
    → IsBodyOf (columns_of form header) (length header) bytes header rows (Some f) → header_fault form.cols header ≡ None
    → HasDistinctKeys form.key rows → IsFaultOf form bytes f
stopped_is_fault form bytes header rows f b named distinct =
    inr (inr record {
      header = header;
      records = b.records;
      fields = b.stop.0;
      first = b.stop.1;
      named = named;
      rows = rows;
      rows_are = record { written = b.written; few = b.few; distinct = distinct };
      at_fault = elim b.stop.2 [ inl t ↦ inl t | inr t ↦ inr (inl t) ];
    })

-- where no key is repeated and reading came to the end, the file is a table
pub body_is_table : (form : TableForm) (bytes : List ℕ) (header : List (List ℕ)) (rows : List (List Val))
    → IsBodyOf (columns_of form header) (length header) bytes header rows None → header_fault form.cols header ≡ None
    → HasDistinctKeys form.key rows → IsTableOf form bytes rows
body_is_table form bytes header rows b named distinct =
    record { header = header; records = b.records; all = b.stop; named = named; rows_are = record { written = b.written; few = b.few; distinct = distinct } }

-- the places of the key are places of each row
pub rows_within : (form : TableForm) (header : List (List ℕ)) (records : List (List (List ℕ))) (rows : List (List Val))
    → AllZip (IsRowOf (columns_of form header) (length header)) records rows → length form.no_null ≡ length form.cols
    → All (λ place. place < length form.cols) form.key → All (AreWithin form.key) rows
rows_within form header records rows written same within k d small j e h =
    let row = zip_at (IsRowOf (columns_of form header) (length header)) records rows k [] d written small in
    let wide = zip_length (λ column v. WritesCell column (field_of (get_or records k []) column) v) (columns_of form header) (get_or rows k d) row.1 in
    let columns = length-columns_in header form.cols form.no_null same in
    let place = within j e h in
    omega arith
