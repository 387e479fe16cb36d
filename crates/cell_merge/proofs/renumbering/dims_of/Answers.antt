use Rattle.std.proofs.Common.{◌≡◌, ◌+◌, ◌++◌, ◌∷◌, ◌∙◌, [], ℕ, Bool, true, false, cond, ap, arith, refl, sym}
use Rattle.std.specs.List.{filter, range_with_len}
use Rattle.std.proofs.lemmas.List.{append-nil, map-id}
use Rattle.std.proofs.lemmas.List.Elements.{filter-append}
use Rattle.std.proofs.lemmas.List.FromFn.{map-range_with_len_more}
use Rattle.agg_group.specs.Mask.{has}
use Rattle.cell_gather.specs.Keys.{dims_of}
use Rattle.cell_merge.proofs.renumbering.dims_of.Goals as goal
use Rattle.cell_merge.proofs.renumbering.dims_of.Goals.{then-has+in_ok-push, else-has}

range_more : (d : ℕ) → range_with_len 0 (d + 1) ≡ range_with_len 0 d ++ d ∷ []
range_more d =
    sym (map-id (range_with_len 0 (d + 1))) ∙ map-range_with_len_more (λ x. x) 0 d d (omega arith) ∙ ap (λ l. l ++ d ∷ []) (map-id (range_with_len 0 d))

one_more : (p : ℕ → Bool) (d : ℕ) (b : Bool) → p d ≡ b → filter p (range_with_len 0 (d + 1)) ≡ cond b (filter p (range_with_len 0 d) ++ d ∷ []) (filter p (range_with_len 0 d))
one_more p d b e =
    ap (filter p) (range_more d) ∙ filter-append p (range_with_len 0 d) (d ∷ []) ∙ ap (λ t. filter p (range_with_len 0 d) ++ cond t (d ∷ []) []) e ∙ by b
  where
    by : (b : Bool) → filter p (range_with_len 0 d) ++ cond b (d ∷ []) [] ≡ cond b (filter p (range_with_len 0 d) ++ d ∷ []) (filter p (range_with_len 0 d))
    by true = refl
    by false = append-nil (filter p (range_with_len 0 d))

pub loop-d-preserved : goal.loop-d-preserved
loop-d-preserved c =
    let p = has c.args.mask in
    elim c.if-has.branch [
      | then-has+in_ok-push w ↦
          let pushed : c.if-has.dims.items ≡ c.loop-d.dims.items ++ c.loop-d.d ∷ [] = cc w.in_ok-push.ensures.items in
          pushed ∙ ap (λ l. l ++ c.loop-d.d ∷ []) c.loop-d.invariant ∙ sym (one_more p c.loop-d.d true (sym c.has.ensures ∙ w.if-has.true))
      | else-has w ↦
          let same : c.if-has.dims.items ≡ c.loop-d.dims.items = cc in
          same ∙ c.loop-d.invariant ∙ sym (one_more p c.loop-d.d false (sym c.has.ensures ∙ w.if-has.false))
    ]

pub returns : goal.returns
unfolding dims_of
returns c =
    let all : c.loop-d.d ≡ 64 = omega arith in
    rw all at c.loop-d.invariant
