use Rattle.std.proofs.Common.{◌≡◌, ◌<◌, ◌+◌, ◌^◌, ◌∷◌, ◌++◌, ◌∙◌, [], List, ℕ, ap, arith, drop, length, map, subst, sym, take}
use Rattle.std.specs.List.Sorted.{IsStrictlySortedBy}
use Rattle.std.proofs.lemmas.List.{length-map}
use Rattle.agg_group.specs.Mask.{count_of}
use Rattle.cell_store.specs.Cells.{CellRows, ItemsAreFew, form_of, key_cmp}
use Rattle.cell_store.specs.Columns.{AreColumns, lists_of, rows_of, with_key}
use Rattle.cell_store.specs.declared.cell.Cell.{Cell}
use Rattle.cell_store.proofs.ColumnLemmas.{length-lists_of, rows_of-push}
use Rattle.cell_store.proofs.TableLemmas.{count_fits, pushed_columns, written}
use Rattle.cell_store.proofs.table.CellTable.push.Goals as goal

pub invariant_of-self : goal.invariant_of-self
invariant_of-self c =
    let t = c.self.inside in
    let new = c.reserve_each.new.columns in
    let size : length new ≡ length t.columns.items = c.reserve_each.auto.columns ∙ ap length c.as_mut_slice.ensures.value in
    let lists : lists_of (take t.columns.len (new ++ drop (length new) t.columns.items)) ≡ lists_of t.columns.items =
    ap lists_of (written new t.columns.items t.columns.len (sym t.columns.ok.0) size) ∙ c.reserve_each.ensures.same ∙ ap lists_of c.as_mut_slice.ensures.value in
    subst (λ (l : List (List ℕ)). AreColumns t.mask t.forms.items t.count l t.cells.items) (sym lists) c.self.invariant

pub invariant_of-self-in_err-append : goal.invariant_of-self-in_err-append
invariant_of-self-in_err-append c =
    let t = c.self.inside in
    let new = c.reserve_each.new.columns in
    let size : length new ≡ length t.columns.items = c.reserve_each.auto.columns ∙ ap length c.as_mut_slice.ensures.value in
    let lists : lists_of (take t.columns.len (new ++ drop (length new) t.columns.items)) ≡ lists_of t.columns.items =
    ap lists_of (written new t.columns.items t.columns.len (sym t.columns.ok.0) size) ∙ c.reserve_each.ensures.same ∙ ap lists_of c.as_mut_slice.ensures.value in
    subst (λ (l : List (List ℕ)). AreColumns t.mask t.forms.items t.count l c.append.new.self.items) (sym lists)
    (subst (λ (l : List Cell). AreColumns t.mask t.forms.items t.count (lists_of t.columns.items) l) (sym c.in_err-append.ensures.items) c.self.invariant)

pub overflow_add-self : goal.overflow_add-self
overflow_add-self c =
    let t = c.self.inside in
    let key = c.args.key.now in
    let dims : length t.columns.items ≡ length key =
    sym (length-lists_of t.columns.items) ∙ c.self.invariant.dims ∙ ap (λ (v : CellRows). count_of v.mask) c.self.view_is ∙ sym c.requires.width in
    let up = subst (λ (v : CellRows). IsStrictlySortedBy key_cmp (map (λ row. row.0) v.rows ++ key ∷ [])) (sym c.self.view_is) c.requires.rising in
    let fits : t.count + 1 < 2 ^ 64 = count_fits t.columns.items t.count (length t.forms.items) t.cells.items key c.self.invariant.each dims up in
    omega arith

pub invariant_of-self-2 : goal.invariant_of-self-2
invariant_of-self-2 c =
    let t = c.self.inside in
    let key = c.args.key.now in
    let reserved = c.reserve_each.new.columns in
    let new = c.put_key.new.columns in
    let before = take t.columns.len (reserved ++ drop (length reserved) t.columns.items) in
    let size : length reserved ≡ length t.columns.items = c.reserve_each.auto.columns ∙ ap length c.as_mut_slice.ensures.value in
    let had : before ≡ reserved = written reserved t.columns.items t.columns.len (sym t.columns.ok.0) size in
    let len : length before ≡ t.columns.len = ap length had ∙ size ∙ sym t.columns.ok.0 in
    let kept : length new ≡ length before = c.put_key.auto.columns ∙ ap length c.as_mut_slice-2.ensures.value in
    let lists : lists_of (take t.columns.len (new ++ drop (length new) before)) ≡ with_key (lists_of t.columns.items) key =
    ap lists_of (written new before t.columns.len len kept) ∙ c.put_key.ensures
    ∙ ap (λ (l : List (List ℕ)). with_key l key) (ap lists_of (c.as_mut_slice-2.ensures.value ∙ had) ∙ c.reserve_each.ensures.same ∙ ap lists_of c.as_mut_slice.ensures.value) in
    let width = c.requires.width ∙ sym (ap (λ (v : CellRows). count_of v.mask) c.self.view_is) in
    let formed = c.requires.forms ∙ sym (ap (λ (v : CellRows). v.forms) c.self.view_is) in
    let up = subst (λ (v : CellRows). IsStrictlySortedBy key_cmp (map (λ row. row.0) v.rows ++ key ∷ [])) (sym c.self.view_is) c.requires.rising in
    let few = subst (λ (v : CellRows). ItemsAreFew v.forms (v.rows ++ (key, c.args.cells.items) ∷ [])) (sym c.self.view_is) c.requires.few in
    subst (λ (l : List (List ℕ)). AreColumns t.mask t.forms.items (t.count + 1) l c.append.new.self.items) (sym lists)
    (subst (λ (l : List Cell). AreColumns t.mask t.forms.items (t.count + 1) (with_key (lists_of t.columns.items) key) l) (sym c.in_ok-append.ensures.items)
    (pushed_columns t.mask t.forms.items t.count (lists_of t.columns.items) t.cells.items key c.args.cells.items c.self.invariant width formed up few))

pub returns-clause-ok : goal.returns-clause-ok
returns-clause-ok c =
    let t = c.self.inside in
    let key = c.args.key.now in
    let reserved = c.reserve_each.new.columns in
    let new = c.put_key.new.columns in
    let before = take t.columns.len (reserved ++ drop (length reserved) t.columns.items) in
    let size : length reserved ≡ length t.columns.items = c.reserve_each.auto.columns ∙ ap length c.as_mut_slice.ensures.value in
    let had : before ≡ reserved = written reserved t.columns.items t.columns.len (sym t.columns.ok.0) size in
    let len : length before ≡ t.columns.len = ap length had ∙ size ∙ sym t.columns.ok.0 in
    let kept : length new ≡ length before = c.put_key.auto.columns ∙ ap length c.as_mut_slice-2.ensures.value in
    let lists : lists_of (take t.columns.len (new ++ drop (length new) before)) ≡ with_key (lists_of t.columns.items) key =
    ap lists_of (written new before t.columns.len len kept) ∙ c.put_key.ensures
    ∙ ap (λ (l : List (List ℕ)). with_key l key) (ap lists_of (c.as_mut_slice-2.ensures.value ∙ had) ∙ c.reserve_each.ensures.same ∙ ap lists_of c.as_mut_slice.ensures.value) in
    let width : length key ≡ count_of t.mask = c.requires.width ∙ sym (ap (λ (v : CellRows). count_of v.mask) c.self.view_is) in
    let more : length c.args.cells.items ≡ length t.forms.items =
    sym (length-map c.args.cells.items form_of) ∙ ap length (c.requires.forms ∙ sym (ap (λ (v : CellRows). v.forms) c.self.view_is)) in
    (λ i. rows_of (t.count + 1) (lists i) (length t.forms.items) (c.in_ok-append.ensures.items i))
    ∙ rows_of-push t.count (lists_of t.columns.items) (length t.forms.items) t.cells.items key c.args.cells.items (c.self.invariant.dims ∙ sym width) c.self.invariant.each c.self.invariant.whole more
    ∙ ap (λ (v : CellRows). v.rows ++ (key, c.args.cells.items) ∷ []) c.self.view_is
