use Rattle.std.proofs.Common.{◌≡◌, ◌+◌, ◌++◌, ◌∷◌, ◌∙◌, [], ap, arith, drop, get_or, sym}
use Rattle.std.proofs.lemmas.List.{append-nil, drop_all, take_rest}
use Rattle.measure_laws.proofs.Unions.{passed, union, union-nil, union_equal, union_greater, union_is, union_less}
use Rattle.measure_laws.proofs.id_set.union_of.Goals as goal
use Rattle.measure_laws.proofs.id_set.union_of.Goals.{then-x-y, else-x-y, then-loop-i-test+else-j-b, else-loop-i-test}

pub loop-i-preserved-then-y-x : goal.loop-i-preserved-then-y-x
loop-i-preserved-then-y-x c =
    let a = c.args.a.now in
    let b = c.args.b.now in
    let i = c.loop-i.i in
    let j = c.loop-i.j in
    let x = get_or a i 0 in
    let y = get_or b j 0 in
    let done = c.loop-i.union.items in
    let all = union a b in
    elim c.if-x-y.branch [
      | then-x-y w ↦
          let low : c.min.result ≡ x = omega arith in
          let pushed : c.push.new.self.items ≡ done ++ x ∷ [] = c.in_ok-push.ensures.items ∙ ap (λ z. done ++ z ∷ []) low in
          record {
            first = omega arith;
            second = omega arith;
            whole =
                (λ k. pushed k ++ union (drop (w.i-is k) a) (drop (j + 1) b))
                ∙ passed done (union (drop i a) (drop j b)) (union (drop (i + 1) a) (drop (j + 1) b)) all x c.loop-i.invariant.whole (union_equal a b i j (omega arith) (omega arith) (omega arith));
          }
      | else-x-y w ↦
          let low : c.min.result ≡ y = omega arith in
          let pushed : c.push.new.self.items ≡ done ++ y ∷ [] = c.in_ok-push.ensures.items ∙ ap (λ z. done ++ z ∷ []) low in
          record {
            first = omega arith;
            second = omega arith;
            whole =
                (λ k. pushed k ++ union (drop (w.i-is k) a) (drop (j + 1) b))
                ∙ passed done (union (drop i a) (drop j b)) (union (drop i a) (drop (j + 1) b)) all y c.loop-i.invariant.whole (union_greater a b i j (omega arith) (omega arith) (omega arith));
          }
    ]

pub loop-i-preserved : goal.loop-i-preserved
loop-i-preserved c =
    let a = c.args.a.now in
    let b = c.args.b.now in
    let i = c.loop-i.i in
    let j = c.loop-i.j in
    let x = get_or a i 0 in
    let y = get_or b j 0 in
    let done = c.loop-i.union.items in
    let all = union a b in
    elim c.if-x-y.branch [
      | then-x-y w ↦
          let low : c.min.result ≡ x = omega arith in
          let pushed : c.push.new.self.items ≡ done ++ x ∷ [] = c.in_ok-push.ensures.items ∙ ap (λ z. done ++ z ∷ []) low in
          record {
            first = omega arith;
            second = omega arith;
            whole =
                (λ k. pushed k ++ union (drop (w.i-is k) a) (drop j b))
                ∙ passed done (union (drop i a) (drop j b)) (union (drop (i + 1) a) (drop j b)) all x c.loop-i.invariant.whole (union_less a b i j (omega arith) (omega arith) (omega arith));
          }
      | else-x-y w ↦ absurd (omega arith)
    ]

pub returns : goal.returns
returns c =
    let a = c.args.a.now in
    let b = c.args.b.now in
    let i = c.loop-i.i in
    let j = c.loop-i.j in
    let done = c.loop-i.union.items in
    let left = drop i a in
    let right = drop j b in
    let both : c.extend_from_slice-2.new.self.items ≡ (done ++ left) ++ right =
    c.in_ok-extend_from_slice-2.ensures.items ∙ (λ k. c.in_ok-extend_from_slice.ensures.items k ++ take_rest b j k) ∙ ap (λ l. (done ++ l) ++ right) (take_rest a i) in
    let whole : (done ++ left) ++ right ≡ union a b =
    elim c.loop-i-test.branch [
      | then-loop-i-test+else-j-b w ↦
          let none : right ≡ [] = drop_all j b (omega arith) in
          ap (λ l. (done ++ left) ++ l) none ∙ append-nil (done ++ left) ∙ ap (λ l. done ++ l) (sym (ap (union left) none ∙ union-nil left)) ∙ c.loop-i.invariant.whole
      | else-loop-i-test w ↦
          let none : left ≡ [] = drop_all i a (omega arith) in
          ap (λ l. (done ++ l) ++ right) none ∙ ap (λ l. l ++ right) (append-nil done) ∙ ap (λ l. done ++ l) (sym (ap (λ l. union l right) none)) ∙ c.loop-i.invariant.whole
    ] in
    both ∙ whole ∙ union_is a b c.requires.first c.requires.second
