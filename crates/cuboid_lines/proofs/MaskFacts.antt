-- The masks of a sound cube span a tree, and lists of numbers grow at their end.
use Rattle.std.proofs.Common.{◌≡◌, ◌+◌, ◌++◌, ◌∷◌, ℕ, zero, suc, List, [], ap, sym, subst, ◌∙◌, length, arith}
use Rattle.std.specs.List.{flat_map, range_with_len}
use Rattle.std.proofs.lemmas.List.{flat_map_more}
use Rattle.agg_group.proofs.BuiltLemmas.{built_has_base, built_rises}
use Rattle.agg_group.specs.Built.{built_masks}
use Rattle.agg_group.specs.declared.mask.Mask.{Mask}
use Rattle.cube_desc.specs.Cube.{Cube}
use Rattle.cube_desc.specs.Sound.{IsSound}
use Rattle.cuboid_tree.specs.Tree.{SpansTree}

pub masks_span : (c : Cube) → IsSound c → SpansTree c.masks
masks_span c s =
    let base = built_has_base (length c.rowkey) c.groups s.included s.groups in
    let built : SpansTree (built_masks (length c.rowkey) c.groups) = record { some = base.0; rising = built_rises (length c.rowkey) c.groups; base = base.1 } in
    subst (λ (ms : List Mask). SpansTree ms) (sym s.masks) built

range_push : (a n : ℕ) → range_with_len a (suc n) ≡ range_with_len a n ++ (a + n) ∷ []
range_push a zero = ap (λ k. k ∷ []) (omega arith)
range_push a (suc n) = let same : a + 1 + n ≡ a + suc n = omega arith in ap (λ l. a ∷ l) (range_push (a + 1) n ∙ ap (λ k. range_with_len (a + 1) n ++ k ∷ []) same)

-- one more number
pub flat_map_range : (f : ℕ → List ℕ) (front : List ℕ) (n : ℕ) → (front ++ flat_map f (range_with_len 0 n)) ++ f n ≡ front ++ flat_map f (range_with_len 0 (n + 1))
flat_map_range f front n =
    let next : n + 1 ≡ suc n = omega arith in
    let last : 0 + n ≡ n = omega arith in
    let pushed : range_with_len 0 (suc n) ≡ range_with_len 0 n ++ n ∷ [] = range_push 0 n ∙ ap (λ k. range_with_len 0 n ++ k ∷ []) last in
    flat_map_more f front (range_with_len 0 n) n ∙ ap (λ l. front ++ flat_map f l) (sym pushed) ∙ ap (λ k. front ++ flat_map f (range_with_len 0 k)) (sym next)
