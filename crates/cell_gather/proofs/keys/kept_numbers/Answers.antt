use Rattle.std.proofs.Common.{◌≡◌, ◌++◌, ◌∷◌, ◌∙◌, [], List, Bool, ap, inl, inr, refl, sym}
use Rattle.std.proofs.lemmas.List.{append-nil}
use Rattle.std.proofs.lemmas.Slice.Zip.{either_empty_from_Zip}
use Rattle.cell_gather.specs.Keys.{kept_numbers}
use Rattle.cell_gather.proofs.keys.kept_numbers.Goals as goal

no_numbers : (keeps : List Bool) → kept_numbers keeps [] ≡ []
no_numbers [] = refl
no_numbers (keep ∷ keeps) = refl

pub returns : goal.returns
returns c =
    let part = c.loop-keep.part.items in
    let it = c.loop-keep.keep-iterator in
    elim (either_empty_from_Zip c.loop-keep.keep-iterator c.next.new.self c.next.result c.in-None.is c.next.ensures.steps) [
      | inl e ↦ sym (append-nil part) ∙ ap (λ l. part ++ kept_numbers l it.b.rest.now) (sym e) ∙ c.loop-keep.invariant
      | inr e ↦ sym (append-nil part) ∙ ap (λ l. part ++ l) (sym (no_numbers it.a.rest.now)) ∙ ap (λ l. part ++ kept_numbers it.a.rest.now l) (sym e) ∙ c.loop-keep.invariant
    ]
