-- A writer that takes lines of any number of fields writes each as the default writer does.
use Rattle.std.proofs.Common.{◌≡◌, ◌≢◌, ◌<◌, ◌+◌, ℕ, true, false, cond, ◌==◌, Result, Ok, Err, IfOk, OnOk, List, [], ◌∷◌, ◌++◌, Option, Some, None, append_assoc, append-nil, get_or, length, map, refl, sym, ap, ◌∙◌, subst, take}
use Rattle.std.specs.List.{flat_map}
use Rattle.std.proofs.lemmas.List.{map-append, take_more}
use Rattle.std.proofs.lemmas.List.Concat.{flat_map-append}
use Rattle.std.specs.Io.KnownBytes.{Appends}
use Rattle.std.specs.Result.{is_err}
use Rattle.std.specs.declared.alloc.Global.{Global}
use Rattle.std.specs.declared.vec.Vec.{Vec}
use Rattle.csv.specs.Writing.{default_writer, escaped, field_text, fields_text, fields_written, has_written, is_blank, row_text, text_written, writer_setup}
use Rattle.csv.specs.declared.writer.QuoteStyle.TheVariants as style
use Rattle.csv.specs.declared.writer.Writer.{Writer}
use Rattle.csv.specs.declared.writer.WriterBuilder.{WriterBuilder}
use Rattle.script_text.specs.Blocks.{csv_line, table_text}
use Rattle.script_text.specs.Writing.{HasWritten}

-- the default settings, with lines of any number of fields
abbrev any_length : WriterBuilder
any_length = record default_writer { flexible = true }

same_escaped : (field : List ℕ) → escaped any_length field ≡ escaped default_writer field
unfolding escaped
same_escaped [] = refl
same_escaped (b ∷ rest) = ap (λ (t : List ℕ). cond (b == 34) (34 ∷ b ∷ t) (b ∷ t)) (same_escaped rest)

same_field : (field : List ℕ) → field_text any_length field ≡ field_text default_writer field
same_field field = rw (same_escaped field) refl

same_fields : (fields : List (List ℕ)) → fields_text any_length fields ≡ fields_text default_writer fields
unfolding fields_text
same_fields [] = refl
same_fields (field ∷ rest) = rw (same_field field, same_fields rest) refl

same_blank : (fields : List (List ℕ)) → is_blank any_length fields ≡ is_blank default_writer fields
unfolding is_blank
same_blank [] = refl
same_blank (field ∷ []) = ap (λ (t : List ℕ). length t == 0) (same_field field)
same_blank (field ∷ next ∷ rest) = refl

pub same_row : (fields : List (List ℕ)) → row_text any_length fields ≡ csv_line fields
same_row [] = rw (same_blank []) refl
same_row (field ∷ rest) = rw (same_field field, same_fields rest, same_blank (field ∷ rest)) refl

pub ok_part : {T E : Type 0} (r : Result T E) (P : Type 0) → is_err r ≡ false → OnOk r P → P
ok_part (Ok x) P e h = h
ok_part (Err x) P e h = absurd cc

known : (old new : Option (List ℕ)) (bytes text : List ℕ) → old ≡ Some text → Appends old new bytes → new ≡ Some (text ++ bytes)
known None new bytes text e h = absurd cc
known (Some xs) None bytes text e h = absurd h
known (Some xs) (Some ys) bytes text e h = ap (λ (l : List ℕ). Some l) (h ∙ ap (λ (l : List ℕ). l ++ bytes) (same e)) where
  same : Some xs ≡ Some text → xs ≡ text
  same e = cc

abbrev contents : Vec ℕ Global → Option (List ℕ)
contents v = Some v.items

-- a line more
pub written_more : (old new : Writer (Vec ℕ Global)) (fields : List (List ℕ)) (text : List ℕ) → HasWritten text old
    → (fields_written old ≡ 0 → has_written old ≡ false → (writer_setup old).style ≢ style.NonNumeric
    → Appends (text_written contents old) (text_written contents new) (row_text (writer_setup old) fields))
    → fields_written new ≡ 0 → has_written new ≡ false → writer_setup new ≡ writer_setup old → HasWritten (text ++ csv_line fields) new
written_more old new fields text h appends ended clean setup =
    let plain : (writer_setup old).style ≢ style.NonNumeric = rw h.setup (λ e. cc) in
    let more = known (text_written contents old) (text_written contents new) (row_text (writer_setup old) fields) text h.written (appends h.ended h.clean plain) in
    let row : row_text (writer_setup old) fields ≡ csv_line fields = ap (λ (cfg : WriterBuilder). row_text cfg fields) h.setup ∙ same_row fields in
    record {
      setup = setup ∙ h.setup;
      ended = ended;
      clean = clean;
      written = more ∙ ap (λ (l : List ℕ). Some (text ++ l)) row;
    }

-- a row more of a table
pub rows_more : {A : Type 0} (header : List (List ℕ)) (fields : A → List (List ℕ)) (rows : List A) (i : ℕ) (row : A) → row ≡ get_or rows i row → i < length rows
    → table_text header (map fields (take i rows)) ++ csv_line (fields row) ≡ table_text header (map fields (take (i + 1) rows))
rows_more {A} header fields rows i row at within =
    let more : take (i + 1) rows ≡ take i rows ++ row ∷ [] = take_more rows i row within ∙ ap (λ (x : A). take i rows ++ x ∷ []) (sym at) in
    append_assoc (csv_line header) (flat_map csv_line (map fields (take i rows))) (csv_line (fields row))
    ∙ ap (λ (t : List ℕ). csv_line header ++ t)
    (ap (λ (t : List ℕ). flat_map csv_line (map fields (take i rows)) ++ t) (sym (append-nil (csv_line (fields row))))
    ∙ sym (flat_map-append csv_line (map fields (take i rows)) (fields row ∷ []))
    ∙ ap (flat_map csv_line) (sym (map-append fields (take i rows) (row ∷ [])) ∙ ap (map fields) (sym more)))

-- the text of a writer that is done
pub written_all : {E : Type 0} (r : Result (Vec ℕ Global) E) (writer : Writer (Vec ℕ Global)) (text : List ℕ)
    → IfOk r (λ written. (text : List ℕ) → HasWritten text writer → written.items ≡ text) → HasWritten text writer → IfOk r (λ written. written.items ≡ text)
written_all (Ok written) writer text h k = h text k
written_all (Err e) writer text h k = tt

-- a table of no row
pub written_header : (header : List (List ℕ)) (writer : Writer (Vec ℕ Global)) → HasWritten (csv_line header) writer → HasWritten (table_text header []) writer
written_header header writer h = subst (λ (text : List ℕ). HasWritten text writer) (sym (append-nil (csv_line header))) h
