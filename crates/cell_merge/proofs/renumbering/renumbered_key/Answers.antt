use Rattle.std.proofs.Common.{◌≡◌, ◌++◌, ◌∷◌, ◌∙◌, [], List, ℕ, ap, inl, inr, refl, sym}
use Rattle.std.proofs.lemmas.List.{append-nil}
use Rattle.std.proofs.lemmas.Slice.Zip.{either_empty_from_Zip}
use Rattle.cell_merge.specs.Renumbered.{renumbered_key}
use Rattle.cell_merge.proofs.renumbering.renumbered_key.Goals as goal

no_key : (remaps : List (List ℕ)) (dims : List ℕ) → renumbered_key remaps dims [] ≡ []
no_key remaps [] = refl
no_key remaps (d ∷ dims) = refl

pub returns : goal.returns
returns c =
    let remaps = c.args.remaps.now in
    let new = c.loop-d.new.items in
    let it = c.loop-d.d-iterator in
    elim (either_empty_from_Zip c.loop-d.d-iterator c.next.new.self c.next.result c.in-None.is c.next.ensures.steps) [
      | inl e ↦ sym (append-nil new) ∙ ap (λ l. new ++ renumbered_key remaps l it.b.rest.now) (sym e) ∙ c.loop-d.invariant.key
      | inr e ↦ sym (append-nil new) ∙ ap (λ l. new ++ l) (sym (no_key remaps it.a.rest.now)) ∙ ap (λ l. new ++ renumbered_key remaps it.a.rest.now l) (sym e) ∙ c.loop-d.invariant.key
    ]
