use Rattle.std.proofs.Common.{◌≡◌, ◌++◌, ◌∙◌, ap, arith, drop, map, sym}
use Rattle.std.proofs.lemmas.List.{take_rest}
use denote.Ref.{Bor}
use Rattle.cube_val.specs.declared.val.Val.{Val}
use Rattle.dim_dictionary.proofs.MergeLemmas.{ends_left, ends_right, step_both, step_left, step_right}
use Rattle.dim_dictionary.proofs.sorting.union.Goals as goal
use Rattle.dim_dictionary.proofs.sorting.union.Goals.{then-loop-i-test+else-j-right, else-loop-i-test}

pub loop-i-preserved-in-Less : goal.loop-i-preserved-in-Less
loop-i-preserved-in-Less c =
    let now : Bor Val → Val = λ v. v.now in
    record {
      within_left = omega arith;
      within_right = omega arith;
      merging =
          rw c.in_ok-push-in-Less.ensures.items
          (step_left now c.loop-i.merged.items c.args.left.now c.args.right.now _ c.loop-i.i c.loop-i.j c.index-left-i.result c.index-right-j.result c.index-left-i-in-Less.result
          c.loop-i-test.true c.if-j-right.true c.index-left-i.is c.index-right-j.is c.index-left-i-in-Less.is c.loop-i.invariant.merging (sym c.in-Less.ensures));
    }

pub loop-i-preserved-in-Equal : goal.loop-i-preserved-in-Equal
loop-i-preserved-in-Equal c =
    let now : Bor Val → Val = λ v. v.now in
    record {
      within_left = omega arith;
      within_right = omega arith;
      merging =
          rw c.in_ok-push-in-Equal.ensures.items
          (step_both now c.loop-i.merged.items c.args.left.now c.args.right.now _ c.loop-i.i c.loop-i.j c.index-left-i.result c.index-right-j.result c.index-left-i-in-Equal.result
          c.loop-i-test.true c.if-j-right.true c.index-left-i.is c.index-right-j.is c.index-left-i-in-Equal.is c.loop-i.invariant.merging (sym c.in-Equal.ensures));
    }

pub loop-i-preserved : goal.loop-i-preserved
loop-i-preserved c =
    let now : Bor Val → Val = λ v. v.now in
    record {
      within_left = omega arith;
      within_right = omega arith;
      merging =
          rw c.in_ok-push-in-Greater.ensures.items
          (step_right now c.loop-i.merged.items c.args.left.now c.args.right.now _ c.loop-i.i c.loop-i.j c.index-left-i.result c.index-right-j.result c.index-right-j-in-Greater.result
          c.loop-i-test.true c.if-j-right.true c.index-left-i.is c.index-right-j.is c.index-right-j-in-Greater.is c.loop-i.invariant.merging (sym c.in-Greater.ensures));
    }

pub returns : goal.returns
returns c =
    let now : Bor Val → Val = λ v. v.now in
    let left = c.args.left.now in
    let right = c.args.right.now in
    let both : c.extend_from_slice-2.new.self.items ≡ (c.loop-i.merged.items ++ drop c.loop-i.i left) ++ drop c.loop-i.j right =
    c.in_ok-extend_from_slice-2.ensures.items ∙ ap (λ l. c.extend_from_slice.new.self.items ++ l) (take_rest right c.loop-i.j)
    ∙ ap (λ l. l ++ drop c.loop-i.j right) (c.in_ok-extend_from_slice.ensures.items ∙ ap (λ l. c.loop-i.merged.items ++ l) (take_rest left c.loop-i.i)) in
    ap (map now) both
    ∙ elim c.loop-i-test.branch [
      | then-loop-i-test+else-j-right w ↦ ends_left now c.loop-i.merged.items c.args.left.now c.args.right.now _ c.loop-i.i c.loop-i.j w.if-j-right.false c.loop-i.invariant.merging
      | else-loop-i-test w ↦ ends_right now c.loop-i.merged.items c.args.left.now c.args.right.now _ c.loop-i.i c.loop-i.j w.loop-i-test.false c.loop-i.invariant.merging
    ]
