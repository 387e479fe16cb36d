use Rattle.std.proofs.Common.{◌≡◌, ◌++◌, ◌∙◌, List, ℕ, ℤ, ap, subst, OnOk}
use Rattle.std.specs.Int.{w128, to_be_bytes, cast_unsigned}
use Rattle.std.proofs.lemmas.Int.{to_z-of_z}
use Rattle.byte_frame.proofs.put.put_i128.Goals as goal

pub returns-clause-put : goal.returns-clause-put
returns-clause-put c =
    let same = c.to_be_bytes.ensures ∙ ap (λ (z : ℤ). to_be_bytes w128 (cast_unsigned w128 z)) (to_z-of_z w128 c.args.v c.ranges.v) in
    subst (λ (text : List ℕ). OnOk c.put_bytes.result (c.put_bytes.new.out.items ≡ c.args.out.now.items ++ text)) same c.put_bytes.ensures.put
