-- The layout of a cube that bytes describe.
use Rattle.std.proofs.Common.{◌≡◌, ◌≤◌, ◌<◌, ◌^◌, ℕ, true, List, [], ◌∷◌, length, Option, Some, None, refl, sym, ap, subst, arith, length-append}
use Rattle.std.specs.Prelude.{is_some, map}
use Rattle.std.specs.List.{AllByRecursion, range_with_len}
use Rattle.std.proofs.Math.Nat.{pow-le-pow_right}
use Rattle.std.proofs.lemmas.List.{length-map}
use Rattle.std.proofs.lemmas.List.FromFn.{length-range_with_len}
use Rattle.std.proofs.lemmas.List.Elements.{recursion_from_All}
use Rattle.agg_group.specs.declared.mask.Mask.{Mask}
use Rattle.agg_group.specs.Built.{built_masks}
use Rattle.agg_group.proofs.BuiltLemmas.{built_below, built_has_base, built_rises}
use Rattle.cuboid_tree.specs.Tree.{SpansTree}
use Rattle.cube_desc.specs.Cube.{Cube}
use Rattle.cube_desc.specs.Meaning.{desc_of}
use Rattle.cube_desc.specs.Sound.{IsSound}
use Rattle.cube_desc.proofs.SoundFacts.{sound}
use Rattle.step_codec.specs.Layouts.{IsLayout}
use Rattle.step_codec.specs.declared.layout.Layout.{Layout}
use Rattle.cube_desc.specs.Kept.{dict_places, distinct_places}
use Rattle.cube_desc.proofs.KeptFacts.{few_distinct}
use Rattle.step_files.specs.Cubes.{dict_column, flat_columns, layout_in, layout_of, layout_or}

-- ---- masks

abbrev AreBelow : ℕ → List Mask → Type 0
AreBelow n masks = AllByRecursion (λ (m : Mask). m.0 < n) masks

wider : (n m : ℕ) (masks : List Mask) → n ≤ m → AreBelow n masks → AreBelow m masks
wider n m [] le h = tt
wider n m (k ∷ masks) le h = (omega (arith, le, h.0), wider n m masks le h.1)

-- ---- dictionaries

few_dicts : (c : Cube) → IsSound c → length (map (dict_column (flat_columns c)) (dict_places c)) < 2 ^ 32
few_dicts c s =
    omega (
      arith,
      length-map (dict_places c) (dict_column (flat_columns c)),
      length-append (range_with_len 0 (length c.rowkey)) (distinct_places c),
      length-range_with_len 0 (length c.rowkey),
      few_distinct c,
      s.few_dimensions,
      s.few_measures,
    )

masks_span : (c : Cube) → IsSound c → SpansTree c.masks
masks_span c s =
    let base = built_has_base (length c.rowkey) c.groups s.included s.groups in
    subst (λ (ms : List Mask). SpansTree ms) (sym s.masks) (record { some = base.0; rising = built_rises (length c.rowkey) c.groups; base = base.1 })

masks_below : (c : Cube) → IsSound c → AreBelow (2 ^ 64) c.masks
masks_below c s =
    let n = length c.rowkey in
    let built : AreBelow (2 ^ n) (built_masks n c.groups) = recursion_from_All (λ (m : Mask). m.0 < 2 ^ n) (built_masks n c.groups) (built_below n c.groups s.included s.groups) in
    let wide : 2 ^ n ≤ 2 ^ 64 = pow-le-pow_right {n = 2} (omega arith) {i = n} {j = 64} (omega (arith, s.few_dimensions)) in
    subst (λ (ms : List Mask). AreBelow (2 ^ 64) ms) (sym s.masks) (wider (2 ^ n) (2 ^ 64) (built_masks n c.groups) wide built)

pub layout_holds : (c : Cube) → IsSound c → IsLayout (layout_of c)
unfolding layout_of
layout_holds c s = record {
  spans = masks_span c s;
  few_masks = omega (arith, s.few_masks);
  masks = masks_below c s;
  few_dicts = few_dicts c s;
}

pub layouts_hold : (bytes : List ℕ) (c : Cube) → desc_of bytes ≡ Some c → IsLayout (layout_of c)
layouts_hold bytes c e = layout_holds c (sound bytes c e)

pub layout_is : (bytes : List ℕ) (c : Cube) → desc_of bytes ≡ Some c → layout_in bytes ≡ layout_of c
unfolding layout_in
layout_is bytes c e = ap layout_or e

-- the layout of bytes that are a descriptor
pub is_layout : (bytes : List ℕ) → is_some (desc_of bytes) ≡ true → IsLayout (layout_in bytes)
is_layout bytes h = by (desc_of bytes) refl h where
  by : (o : Option Cube) → desc_of bytes ≡ o → is_some o ≡ true → IsLayout (layout_in bytes)
  by (Some c) e h = subst (λ (l : Layout). IsLayout l) (sym (layout_is bytes c e)) (layouts_hold bytes c e)
  by None e h = absurd cc
