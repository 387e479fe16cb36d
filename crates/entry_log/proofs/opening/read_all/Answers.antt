use Rattle.std.proofs.Common.{◌≡◌, ◌∙◌, ◌++◌, ℕ, List, length, drop, take, ap, arith, sym, subst}
use Rattle.entry_log.proofs.LeftAlone.{both_looks}
use Rattle.entry_log.proofs.Pieces.{all_read, next_piece, no_more}
use Rattle.entry_log.proofs.opening.read_all.Goals as goal

pub returns-then-is_empty-clause-bytes : goal.returns-then-is_empty-clause-bytes
returns-then-is_empty-clause-bytes g c = λ file told.
    let place : c.len-in-loop-alloc.result ≡ length c.loop-alloc.all.items = omega (arith, c.len-in-loop-alloc.ensures) in
    let none : length c.in_ok-part.part.items ≡ 0 = grind (arith, c.is_empty.ensures, c.if-is_empty.true) in
    no_more file c.loop-alloc.all.items c.in_ok-part.part.items 1048576 (omega arith) (c.loop-alloc.invariant.front file told)
    (c.in_ok-part.ensures.part file (c.loop-alloc.invariant.looked.same ∙ told) ∙ ap (λ (k : ℕ). take 1048576 (drop k file)) place)
    none

pub loop-alloc-preserved : goal.loop-alloc-preserved
loop-alloc-preserved g c = record {
  front = λ file told.
      let place : c.len-in-loop-alloc.result ≡ length c.loop-alloc.all.items = omega (arith, c.len-in-loop-alloc.ensures) in
      let more = next_piece file c.loop-alloc.all.items c.in_ok-part.part.items 1048576 (c.loop-alloc.invariant.front file told)
      (c.in_ok-part.ensures.part file (c.loop-alloc.invariant.looked.same ∙ told) ∙ ap (λ (k : ℕ). take 1048576 (drop k file)) place) in
      let is : c.extend_from_slice.new.self.items ≡ c.loop-alloc.all.items ++ c.in_ok-part.part.items = c.in_ok-extend_from_slice.ensures.items ∙ ap (λ (l : List ℕ). c.loop-alloc.all.items ++ l) c.as_slice.ensures.value in
      subst (λ (l : List ℕ). l ≡ take (length l) file) (sym is) more;
  looked = both_looks g.D.Disk.content g.D.Disk.crash_image g.D.Disk.clock g.D.Disk.image_since g.D.Disk.faults c.args.disk.now c.loop-alloc.disk c.piece_at.new.disk c.loop-alloc.invariant.looked c.piece_at.ensures.looked;
}

pub returns-clause-bytes : goal.returns-clause-bytes
returns-clause-bytes g c = λ file told. all_read file c.loop-alloc.all.items (c.loop-alloc.invariant.front file told) (omega (arith, c.loop-alloc-test.false, c.len.ensures, c.in_ok-len.ensures.len file told))
