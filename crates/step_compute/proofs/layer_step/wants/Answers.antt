use Rattle.std.proofs.Common.{◌≡◌, ◌∷◌, ◌∙◌, [], ap, map, true, false}
use Rattle.std.specs.List.{filter, range_with_len}
use Rattle.std.proofs.lemmas.List.{map-append}
use Rattle.cuboid_tree.proofs.Kept.{kept_more, left_more}
use Rattle.step_compute.specs.Values.{is_in_layer}
use Rattle.step_compute.specs.Wants.{want_of}
use Rattle.step_compute.proofs.layer_step.wants.Goals as goal
use Rattle.step_compute.proofs.layer_step.wants.Goals.{then-is_in_layer+in_ok-push, else-is_in_layer}

pub loop-place-preserved : goal.loop-place-preserved
loop-place-preserved c =
    let test = is_in_layer c.args.tree.now c.args.dims in
    let want = want_of c.args.tree.now c.args.parents.now in
    let n = c.loop-place.place in
    let inv : c.loop-place.wants.items ≡ map want (filter test (range_with_len 0 n)) = c.loop-place.invariant in
    elim c.if-is_in_layer.branch [
      | then-is_in_layer+in_ok-push w ↦
          (let yes : test n ≡ true = cc in
          let pushed = w.in_ok-push.ensures.items in
          let own : w.want_of.result ≡ want n = w.want_of.ensures in
          let more = ap (map want) (kept_more test n yes) ∙ map-append want (filter test (range_with_len 0 n)) (n ∷ []) in
          cc)
      | else-is_in_layer w ↦
          (let no : test n ≡ false = cc in
          let more = ap (map want) (left_more test n no) in
          cc)
    ]
