use Rattle.std.proofs.Common.{◌∙◌, arith}
use Rattle.flat_join.proofs.ServeFacts.{places_within, whole_is_found}
use Rattle.flat_join.proofs.snaps.snap_of.Goals as goal

pub make-requires : goal.make-requires
make-requires c = record {
  key = λ k d h i e small.
      let a = c.requires.within i e small in
      let b = c.requires.rows k d h in
      omega arith;
  cols = λ k d h i e small.
      let a = places_within c.as_slice.result.now c.args.width (c.as_slice.ensures.value ∙ c.in_ok-places.ensures) i e small in
      let b = c.requires.rows k d h in
      omega arith;
}

pub returns : goal.returns
returns c = λ q.
    c.in_ok-snap.ensures.rows q
    ∙ whole_is_found c.args.primary.now c.as_slice.result.now c.args.width c.args.lookup.now q c.requires.key (c.as_slice.ensures.value ∙ c.in_ok-places.ensures) c.requires.rows c.requires.distinct
