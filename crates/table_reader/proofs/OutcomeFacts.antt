-- A file has one outcome.
use Rattle.std.proofs.Common.{◌≡◌, ◌<◌, ◌≤◌, ◌+◌, ℕ, List, [], ◌∷◌, ◌++◌, refl, sym, ap, subst, ◌∙◌, length, get_or, take, inl, inr, ◌⊎◌, Some, None, Result, Ok, Err, append_assoc, arith, length-append}
use Rattle.std.specs.Prelude.{slice_get}
use Rattle.std.proofs.lemmas.Bool.Decides.{leb_tells}
use Rattle.cube_val.proofs.ValueFacts.{one_value}
use Rattle.cube_val.specs.declared.form.TableForm.{TableForm}
use Rattle.cube_val.specs.declared.val.Val.{Val}
use Rattle.cube_val.specs.declared.val.Val.TheVariants.{Null}
use Rattle.table_reader.specs.Columns.{columns_of, header_fault}
use Rattle.table_reader.specs.Keys.{HasDistinctKeys, Repeats}
use Rattle.table_reader.specs.Laws.{IsOutcome}
use Rattle.table_reader.specs.Records.{BeginsWith, HasRecords}
use Rattle.table_reader.specs.Rows.{IsCellFault, IsFirstCellFault, IsRecordFault, IsRowOf, WritesCell, WritesRow, field_of}
use Rattle.cube_val.specs.Limits.{row_limit}
use Rattle.table_reader.specs.Tables.{AreRowsOf, HasHeaderFault, HasRowFault, IsFaultAfter, IsFaultOf, IsTableOf}
use Rattle.table_reader.specs.declared.fault.TableFault.{TableFault}
use Rattle.table_reader.specs.declared.fault.TableKind.{TableKind}
use Rattle.table_reader.specs.declared.fault.TableKind.TheVariants as kind
use Rattle.table_reader.specs.declared.header.Column.{Column}
use Rattle.table_reader.proofs.RecordFacts.{IsFrontOf, one_front, one_list, two_fronts}
use Rattle.table_reader.proofs.RowFacts.{item_after, slice_get-take, take_before, zip_one, zip_split, zip_there}

-- a record writes one row
one_cell : (fields : List (List ℕ)) (column : Column) (v w : Val) → WritesCell column (field_of fields column) v → WritesCell column (field_of fields column) w → v ≡ w
one_cell fields column v w g h = one_value column.ty (field_of fields column) v w g.0 h.0

one_row : (columns : List Column) (width : ℕ) (fields : List (List ℕ)) (r s : List Val) → IsRowOf columns width fields r → IsRowOf columns width fields s → r ≡ s
one_row columns width fields r s g h = zip_one (λ column v. WritesCell column (field_of fields column) v) (one_cell fields) columns r s g.1 h.1

one_rows : (form : TableForm) (header : List (List ℕ)) (records : List (List (List ℕ))) (rows others : List (List Val))
    → AreRowsOf form header records rows → AreRowsOf form header records others → rows ≡ others
one_rows form header records rows others g h =
    zip_one (IsRowOf (columns_of form header) (length header)) (one_row (columns_of form header) (length header)) records rows others g.written h.written

-- a field that writes a value has no fault
sound_cell : (column : Column) (field : List ℕ) (k : TableKind) (v : Val) → WritesCell column field v → IsCellFault column field k → ⊥
sound_cell column field kind.NoHeader v g h = h
sound_cell column field kind.MissingColumn v g h = h
sound_cell column field kind.RepeatedColumn v g h = h
sound_cell column field kind.FieldCount v g h = h
sound_cell column field kind.BadValue v g h = h v g.0
sound_cell column field kind.NullMeasure v g h = g.1 h.1 (one_value column.ty field v Null g.0 h.0)
sound_cell column field kind.DuplicateKey v g h = h
sound_cell column field kind.TooManyRows v g h = h

-- nor has a column of a record that writes a row
sound_row : (columns : List Column) (n : ℕ) (fields : List (List ℕ)) (row : List Val) (fault : TableFault)
    → WritesRow columns fields row → IsFirstCellFault columns n fields fault → ⊥
sound_row columns n fields row fault g h =
    let found = zip_there (λ column v. WritesCell column (field_of fields column) v) columns row h.place h.column g h.there in
    sound_cell h.column (field_of fields h.column) fault.kind found.0 found.1 h.cell.wrong

sound_record : (columns : List Column) (width n : ℕ) (fields : List (List ℕ)) (row : List Val) (fault : TableFault)
    → IsRowOf columns width fields row → IsRecordFault columns width n fields fault → ⊥
sound_record columns width n fields row fault g h = elim h [ inl t ↦ t.0 g.0 | inr t ↦ sound_row columns n fields row fault g.1 t.1 ]

-- a row of a table repeats no key of those before it
no_repeat : (form : TableForm) (rows before : List (List Val)) (row : List Val) (after : List (List Val)) → rows ≡ before ++ row ∷ after
    → HasDistinctKeys form.key rows → Repeats form.key before row → ⊥
no_repeat form rows before row after is distinct repeats =
    let size : length rows ≡ length before + length (row ∷ after) = ap length is ∙ length-append before (row ∷ after) in
    let front : take (length before) rows ≡ before = ap (take (length before)) is ∙ take_before before row after in
    let item : get_or rows (length before) [] ≡ row = ap (λ (zs : List (List Val)). get_or zs (length before) []) is ∙ item_after before row after [] in
    distinct (length before) (omega (arith, size)) (rw (front, item) repeats)

-- a record among those that write the rows of a table has no fault after the rows before it
no_fault_before : (form : TableForm) (header : List (List ℕ)) (front : List (List (List ℕ))) (fields : List (List ℕ)) (rest : List (List (List ℕ)))
    (rows before : List (List Val)) (fault : TableFault)
    → AreRowsOf form header (front ++ fields ∷ rest) rows → AreRowsOf form header front before → IsFaultAfter form header before fields fault → ⊥
no_fault_before form header front fields rest rows before fault all some at_fault =
    let columns = columns_of form header in
    let width = length header in
    let parts = zip_split (IsRowOf columns width) front fields rest rows all.written in
    let same : parts.0 ≡ before = zip_one (IsRowOf columns width) (one_row columns width) front parts.0 before parts.4 some.written in
    let is : rows ≡ before ++ parts.1 ∷ parts.2 = parts.3 ∙ ap (λ (zs : List (List Val)). zs ++ parts.1 ∷ parts.2) same in
    let size : length rows ≡ length before + length (parts.1 ∷ parts.2) = ap length is ∙ length-append before (parts.1 ∷ parts.2) in
    let short : length before < row_limit = omega (arith, all.few, size) in
    elim at_fault [
      | inl t ↦ absurd (omega (arith, short, t.0))
      | inr t ↦ elim t [
        | inl r ↦ sound_record columns width (length before + 1) fields parts.1 fault parts.5 r.1
        | inr d ↦ no_repeat form rows before parts.1 parts.2 is all.distinct
            (subst (λ (r : List Val). Repeats form.key before r) (one_row columns width fields d.1 parts.1 d.2 parts.5) d.3)
      ]
    ]

-- a field has one kind of fault
one_kind : (column : Column) (field : List ℕ) (k l : TableKind) → IsCellFault column field k → IsCellFault column field l → k ≡ l
one_kind column field kind.BadValue kind.BadValue g h = refl
one_kind column field kind.BadValue kind.NullMeasure g h = absurd (g Null h.0)
one_kind column field kind.NullMeasure kind.BadValue g h = absurd (h Null g.0)
one_kind column field kind.NullMeasure kind.NullMeasure g h = refl
one_kind column field kind.NoHeader l g h = absurd g
one_kind column field kind.MissingColumn l g h = absurd g
one_kind column field kind.RepeatedColumn l g h = absurd g
one_kind column field kind.FieldCount l g h = absurd g
one_kind column field kind.DuplicateKey l g h = absurd g
one_kind column field kind.TooManyRows l g h = absurd g
one_kind column field k kind.NoHeader g h = absurd h
one_kind column field k kind.MissingColumn g h = absurd h
one_kind column field k kind.RepeatedColumn g h = absurd h
one_kind column field k kind.FieldCount g h = absurd h
one_kind column field k kind.DuplicateKey g h = absurd h
one_kind column field k kind.TooManyRows g h = absurd h

-- no column before the first wrong one is wrong
not_before : (columns : List Column) (n : ℕ) (fields : List (List ℕ)) (f g : TableFault) → (a : IsFirstCellFault columns n fields f) → (b : IsFirstCellFault columns n fields g)
    → a.place < b.place → ⊥
not_before columns n fields f g a b less =
    let there : slice_get (take b.place columns) a.place ≡ Some a.column = slice_get-take columns a.place b.place less ∙ a.there in
    let found = zip_there (λ column v. WritesCell column (field_of fields column) v) (take b.place columns) b.before.0 a.place a.column b.before.1 there in
    sound_cell a.column (field_of fields a.column) f.kind found.0 found.1 a.cell.wrong

one_cell_fault : (columns : List Column) (n : ℕ) (fields : List (List ℕ)) (f g : TableFault) → IsFirstCellFault columns n fields f → IsFirstCellFault columns n fields g → f ≡ g
one_cell_fault columns n fields f g a b =
    let le : a.place ≤ b.place = elim (leb_tells a.place b.place) [ inl h ↦ h.1 | inr h ↦ absurd (not_before columns n fields g f b a h.1) ] in
    let ge : b.place ≤ a.place = elim (leb_tells b.place a.place) [ inl h ↦ h.1 | inr h ↦ absurd (not_before columns n fields f g a b h.1) ] in
    let place : a.place ≡ b.place = omega arith in
    let some : Some a.column ≡ Some b.column = sym a.there ∙ ap (slice_get columns) place ∙ b.there in
    let column : a.column ≡ b.column = cc some in
    let wrong : IsCellFault b.column (field_of fields b.column) f.kind = subst (λ (c : Column). IsCellFault c (field_of fields c) f.kind) column a.cell.wrong in
    let row : f.row ≡ g.row = a.cell.row ∙ sym b.cell.row in
    let at : f.column ≡ g.column = a.cell.at ∙ ap Some place ∙ sym b.cell.at in
    let kinds : f.kind ≡ g.kind = one_kind b.column (field_of fields b.column) f.kind g.kind wrong b.cell.wrong in
    λ i. record { row = row i; column = at i; kind = kinds i }

one_record_fault : (columns : List Column) (width n : ℕ) (fields : List (List ℕ)) (f g : TableFault) → IsRecordFault columns width n fields f → IsRecordFault columns width n fields g → f ≡ g
one_record_fault columns width n fields f g a b =
    elim a [
      | inl s ↦ elim b [ inl t ↦ s.1 ∙ sym t.1 | inr t ↦ absurd (s.0 t.0) ]
      | inr s ↦ elim b [ inl t ↦ absurd (t.0 s.0) | inr t ↦ one_cell_fault columns n fields f g s.1 t.1 ]
    ]

-- a record has one fault after the rows before it
one_fault_after : (form : TableForm) (header : List (List ℕ)) (rows : List (List Val)) (fields : List (List ℕ)) (f g : TableFault)
    → IsFaultAfter form header rows fields f → IsFaultAfter form header rows fields g → f ≡ g
one_fault_after form header rows fields f g a b =
    let columns = columns_of form header in
    let width = length header in
    elim a [
      | inl s ↦ elim b [ inl t ↦ s.1 ∙ sym t.1 | inr t ↦ elim t [ inl r ↦ absurd (omega (arith, s.0, r.0)) | inr r ↦ absurd (omega (arith, s.0, r.0)) ] ]
      | inr u ↦ elim u [
        | inl s ↦ elim b [
          | inl t ↦ absurd (omega (arith, s.0, t.0))
          | inr t ↦ elim t [
            | inl r ↦ one_record_fault columns width (length rows + 1) fields f g s.1 r.1
            | inr r ↦ absurd (sound_record columns width (length rows + 1) fields r.1 f r.2 s.1)
          ]
        ]
        | inr s ↦ elim b [
          | inl t ↦ absurd (omega (arith, s.0, t.0))
          | inr t ↦ elim t [
            | inl r ↦ absurd (sound_record columns width (length rows + 1) fields s.1 g s.2 r.1)
            | inr r ↦ s.4 ∙ sym r.4
          ]
        ]
      ]
    ]

-- a list that ends with an item, and has another one after a front part: either that is the last, or it comes before
last_split : {A : Type 0} (xs : List A) (x : A) (ys : List A) (y : A) (rest : List A) → xs ++ x ∷ [] ≡ ys ++ y ∷ rest
    → ((xs ≡ ys) × (x ≡ y)) ⊎ ((more : List A) × (xs ≡ ys ++ y ∷ more))
last_split [] x [] y rest e = inl (refl, cc e)
last_split {A} [] x (z ∷ ys) y rest e =
    let tail : [] ≡ ys ++ y ∷ rest = cc e in
    let size : 0 ≡ length ys + length (y ∷ rest) = ap length tail ∙ length-append ys (y ∷ rest) in
    absurd (omega (arith, size))
last_split (w ∷ xs) x [] y rest e = let head : w ≡ y = cc e in inr (xs, λ i. head i ∷ xs)
last_split (w ∷ xs) x (z ∷ ys) y rest e =
    let head : w ≡ z = cc e in
    let tail : xs ++ x ∷ [] ≡ ys ++ y ∷ rest = cc e in
    elim (last_split xs x ys y rest tail) [
      | inl r ↦ inl (λ i. head i ∷ r.0 i, r.1)
      | inr r ↦ inr (r.0, λ i. head i ∷ r.1 i)
    ]

-- of two records with a fault that is the first, none comes after the other
not_after : (form : TableForm) (bytes : List ℕ) (f g : TableFault) (a : HasRowFault form bytes f) (b : HasRowFault form bytes g)
    → IsFrontOf (a.header ∷ a.records ++ a.fields ∷ []) (b.header ∷ b.records ++ b.fields ∷ []) → f ≡ g
not_after form bytes f g a b (rest, e) =
    let header : b.header ≡ a.header = cc e in
    let tails : b.records ++ b.fields ∷ [] ≡ (a.records ++ a.fields ∷ []) ++ rest = cc e in
    let lists : b.records ++ b.fields ∷ [] ≡ a.records ++ a.fields ∷ rest = tails ∙ append_assoc a.records (a.fields ∷ []) rest in
    let rows : AreRowsOf form a.header b.records b.rows = subst (λ (h : List (List ℕ)). AreRowsOf form h b.records b.rows) header b.rows_are in
    elim (last_split b.records b.fields a.records a.fields rest lists) [
      | inl r ↦
          let front : AreRowsOf form a.header a.records b.rows = subst (λ (rs : List (List (List ℕ))). AreRowsOf form a.header rs b.rows) r.0 rows in
          let same : b.rows ≡ a.rows = one_rows form a.header a.records b.rows a.rows front a.rows_are in
          let at_header : IsFaultAfter form a.header b.rows b.fields g = subst (λ (h : List (List ℕ)). IsFaultAfter form h b.rows b.fields g) header b.at_fault in
          let at_rows : IsFaultAfter form a.header a.rows b.fields g = subst (λ (rs : List (List Val)). IsFaultAfter form a.header rs b.fields g) same at_header in
          let at_fields : IsFaultAfter form a.header a.rows a.fields g = subst (λ (fs : List (List ℕ)). IsFaultAfter form a.header a.rows fs g) r.1 at_rows in
          one_fault_after form a.header a.rows a.fields f g a.at_fault at_fields
      | inr r ↦ absurd (no_fault_before form a.header a.records a.fields r.0 b.rows a.rows f
          (subst (λ (rs : List (List (List ℕ))). AreRowsOf form a.header rs b.rows) r.1 rows) a.rows_are a.at_fault)
    ]

none_some : {A : Type 0} (x : A) → None ≡ Some x → ⊥
none_some x e = cc e

-- a file has one header
one_header : (bytes : List ℕ) (header other : List (List ℕ)) (records others : List (List (List ℕ)))
    → BeginsWith bytes (header ∷ records) → BeginsWith bytes (other ∷ others) → header ≡ other
one_header bytes header other records others a b =
    elim (two_fronts bytes (header ∷ records) (other ∷ others) a b) [ inl f ↦ same_head f.1 | inr f ↦ sym (same_head f.1) ]
  where
    same_head : {A : Type 0} {x y : A} {xs ys : List A} → x ∷ xs ≡ y ∷ ys → y ≡ x
    same_head e = cc e

-- a file with a header has a record
no_records : (bytes : List ℕ) (header : List (List ℕ)) (records : List (List (List ℕ))) → HasRecords bytes [] → BeginsWith bytes (header ∷ records) → ⊥
no_records bytes header records a b = let front = one_front bytes (header ∷ records) [] b a in empty_head front.1
  where
    empty_head : {A : Type 0} {x : A} {xs : List A} → [] ≡ x ∷ xs → ⊥
    empty_head e = cc e

-- a table has no fault
pub table_has_no_fault : (form : TableForm) (bytes : List ℕ) (rows : List (List Val)) (f : TableFault) → IsTableOf form bytes rows → IsFaultOf form bytes f → ⊥
table_has_no_fault form bytes rows f t h =
    let begins : BeginsWith bytes (t.header ∷ t.records) = (t.all.0, t.all.1, t.all.2) in
    elim h [
      | inl n ↦ no_records bytes t.header t.records n.0 begins
      | inr k ↦ elim k [
        | inl u ↦
            let same = one_header bytes t.header u.header t.records [] begins u.first in
            none_some f (sym t.named ∙ ap (header_fault form.cols) same ∙ u.at_fault)
        | inr u ↦ in_rows u
      ]
    ]
  where
    in_rows : HasRowFault form bytes f → ⊥
    in_rows u =
        let front = one_front bytes (u.header ∷ u.records ++ u.fields ∷ []) (t.header ∷ t.records) u.first t.all in
        let header : t.header ≡ u.header = cc front.1 in
        let tails : t.records ≡ (u.records ++ u.fields ∷ []) ++ front.0 = cc front.1 in
        let lists : t.records ≡ u.records ++ u.fields ∷ front.0 = tails ∙ append_assoc u.records (u.fields ∷ []) front.0 in
        let at_header : AreRowsOf form u.header t.records rows = subst (λ (h : List (List ℕ)). AreRowsOf form h t.records rows) header t.rows_are in
        no_fault_before form u.header u.records u.fields front.0 rows u.rows f (subst (λ (rs : List (List (List ℕ))). AreRowsOf form u.header rs rows) lists at_header) u.rows_are u.at_fault

pub one_table : (form : TableForm) (bytes : List ℕ) (rows others : List (List Val)) → IsTableOf form bytes rows → IsTableOf form bytes others → rows ≡ others
one_table form bytes rows others t u =
    let same = one_list bytes (t.header ∷ t.records) (u.header ∷ u.records) t.all u.all in
    let header : t.header ≡ u.header = cc same in
    let records : t.records ≡ u.records = cc same in
    let at_header : AreRowsOf form u.header t.records rows = subst (λ (h : List (List ℕ)). AreRowsOf form h t.records rows) header t.rows_are in
    one_rows form u.header u.records rows others (subst (λ (rs : List (List (List ℕ))). AreRowsOf form u.header rs rows) records at_header) u.rows_are

one_fault : (form : TableForm) (bytes : List ℕ) (f g : TableFault) → IsFaultOf form bytes f → IsFaultOf form bytes g → f ≡ g
one_fault form bytes f g a b =
    elim a [
      | inl s ↦ elim b [
        | inl t ↦ s.1 ∙ sym t.1
        | inr t ↦ elim t [ inl u ↦ absurd (no_records bytes u.header [] s.0 u.first) | inr u ↦ absurd (no_records bytes u.header (u.records ++ u.fields ∷ []) s.0 u.first) ]
      ]
      | inr s ↦ elim s [
        | inl u ↦ elim b [
          | inl t ↦ absurd (no_records bytes u.header [] t.0 u.first)
          | inr t ↦ elim t [ inl v ↦ headers u v | inr v ↦ absurd (mixed f g u v) ]
        ]
        | inr u ↦ elim b [
          | inl t ↦ absurd (no_records bytes u.header (u.records ++ u.fields ∷ []) t.0 u.first)
          | inr t ↦ elim t [
            | inl v ↦ absurd (mixed g f v u)
            | inr v ↦ elim (two_fronts bytes (u.header ∷ u.records ++ u.fields ∷ []) (v.header ∷ v.records ++ v.fields ∷ []) u.first v.first) [
              | inl x ↦ not_after form bytes f g u v x
              | inr x ↦ sym (not_after form bytes g f v u x)
            ]
          ]
        ]
      ]
    ]
  where
    headers : HasHeaderFault form bytes f → HasHeaderFault form bytes g → f ≡ g
    headers u v =
        let same = one_header bytes u.header v.header [] [] u.first v.first in
        let faults : Some f ≡ Some g = sym u.at_fault ∙ ap (header_fault form.cols) same ∙ v.at_fault in
        cc faults

    mixed : (h k : TableFault) → HasHeaderFault form bytes h → HasRowFault form bytes k → ⊥
    mixed h k u v =
        let same = one_header bytes v.header u.header (v.records ++ v.fields ∷ []) [] v.first u.first in
        none_some h (sym v.named ∙ ap (header_fault form.cols) same ∙ u.at_fault)

pub one_outcome : (form : TableForm) (bytes : List ℕ) (a b : Result (List (List Val)) TableFault) → IsOutcome form bytes a → IsOutcome form bytes b → a ≡ b
one_outcome form bytes (Ok rows) (Ok others) a b = ap Ok (one_table form bytes rows others a b)
one_outcome form bytes (Ok rows) (Err g) a b = absurd (table_has_no_fault form bytes rows g a b)
one_outcome form bytes (Err f) (Ok others) a b = absurd (table_has_no_fault form bytes others f b a)
one_outcome form bytes (Err f) (Err g) a b = ap Err (one_fault form bytes f g a b)
