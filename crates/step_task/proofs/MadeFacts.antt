-- What the step of a valid task wants, and that what it gives is the task's product.
use Rattle.std.specs.Prelude.{Result, IfOk}
use Rattle.step_files.specs.declared.product.Product.{Product}
use Rattle.std.proofs.Common.{◌≡◌, ◌≤◌, ◌<◌, ◌^◌, ℕ, true, IsErrOf, Ok, List, length, sym, ap, subst, arith}
use Rattle.agg_group.specs.declared.mask.Mask.{Mask}
use Rattle.agg_group.specs.Mask.{IsRising}
use Rattle.agg_group.proofs.BuiltLemmas.{built_rises}
use Rattle.cell_store.specs.Cells.{CellRows}
use Rattle.cube_desc.specs.Cube.{Cube}
use Rattle.cube_desc.specs.Sound.{IsSound}
use Rattle.cube_desc.proofs.SoundFacts.{sound}
use Rattle.cube_val.specs.declared.val.Val.{Val}
use Rattle.flat_join.specs.Flat.{AreTablesOf}
use Rattle.measure_laws.specs.Measures.{most_items}
use Rattle.range_list.specs.Ranges.{Interval}
use Rattle.step_codec.specs.Bodies.{FitsAllLoaded, FitsHolding, FitsLayer}
use Rattle.step_codec.specs.Layouts.{size_limit, table_form}
use Rattle.step_codec.specs.declared.layout.Layout.{Layout}
use Rattle.step_codec.specs.declared.seal.SealBody.{SealBody}
use Rattle.step_files.specs.Cubes.{layout_of}
use Rattle.step_files.specs.Tasks.{FitsTask, is_descriptor}
use Rattle.step_files.specs.declared.product.Product.TheVariants as product
use Rattle.step_files.specs.declared.task.Task.{Task}
use Rattle.step_files.specs.declared.task.Task.TheVariants as task
use Rattle.step_task.specs.Steps.{cube_in, step_compute}
use Rattle.step_task.proofs.CubeFacts.{are_tables, described, layout_is_of}
use Rattle.step_task.proofs.TaskFacts.{dicts_counted, parents_are}
use Rattle.cube_desc.specs.Kept.{dict_places}
use Rattle.step_compute.specs.Values.{HasParents}

-- ---- results

pub not_err : {T E : Type 0} (x : T) (e : E) → IsErrOf {T = T} {E = E} (Ok x) e → ⊥
not_err x e h = cc

-- ---- tasks

parents_there : (c : Cube) → IsSound c → (dims : ℕ) (sizes : List ℕ) (parents : List CellRows) → FitsLayer (layout_of c) (dims, (sizes, parents)) → HasParents c.masks dims parents
unfolding layout_of
parents_there c s dims sizes parents h =
    let rising : IsRising c.masks = subst (λ (ms : List Mask). IsRising ms) (sym s.masks) (built_rises (length c.rowkey) c.groups) in
    parents_are c.masks dims (table_form (layout_of c) sizes 1) parents rising h.1.1

-- what is a value of the task that the pattern takes apart is what the step makes
pub made_as : {E : Type 0} (r : Result Product E) (t u : Task) → t ≡ u → IfOk r (λ p. p ≡ step_compute u) → IfOk r (λ p. p ≡ step_compute t)
made_as r t u e h = subst (λ (x : Task). IfOk r (λ p. p ≡ step_compute x)) (sym e) h

module _ (t : Task) (h : FitsTask t) (desc : List ℕ) where
  module _ (range : Interval) (tables : List (List (List Val))) (e : t ≡ task.Flat desc range tables) where
    flat_fits : FitsTask (task.Flat desc range tables)
    flat_fits = subst FitsTask e h

    pub flat_desc : is_descriptor desc ≡ true
    flat_desc = let g = flat_fits in g.0.1

    pub flat_tables : AreTablesOf (cube_in desc) tables
    flat_tables = let g = flat_fits in are_tables (cube_in desc) tables (subst (λ (l : Layout). FitsAllLoaded l tables) (layout_is_of desc g.0.1) g.1.1)

  module _ (flat : List (List Val)) (e : t ≡ task.Dict desc flat) where
    dict_fits : FitsTask (task.Dict desc flat)
    dict_fits = subst FitsTask e h

    pub dict_desc : is_descriptor desc ≡ true
    dict_desc = let g = dict_fits in g.0.1

    pub dict_few : length flat < 2 ^ 32
    dict_few = let g = dict_fits in omega (arith, g.1.0)

  module _ (flat dicts : List (List Val)) (e : t ≡ task.Base desc flat dicts) where
    base_fits : FitsTask (task.Base desc flat dicts)
    base_fits = subst FitsTask e h

    pub base_desc : is_descriptor desc ≡ true
    base_desc = let g = base_fits in g.0.1

    pub base_dicts : length dicts ≡ length (dict_places (cube_in desc))
    base_dicts = let g = base_fits in dicts_counted (cube_in desc) size_limit flat dicts (subst (λ (l : Layout). FitsHolding l size_limit flat dicts) (layout_is_of desc g.0.1) g.1.1)

    pub base_few : length flat ≤ most_items
    base_few = let g = base_fits in omega (arith, g.1.0.0)

  module _ (dims : ℕ) (sizes : List ℕ) (parents : List CellRows) (e : t ≡ task.Layer desc dims sizes parents) where
    layer_fits : FitsTask (task.Layer desc dims sizes parents)
    layer_fits = subst FitsTask e h

    pub layer_desc : is_descriptor desc ≡ true
    layer_desc = let g = layer_fits in g.0.1

    pub layer_parents : HasParents (cube_in desc).masks dims parents
    layer_parents =
        let g = layer_fits in
        let s = sound desc (cube_in desc) (described desc g.0.1) in
        parents_there (cube_in desc) s dims sizes parents (subst (λ (l : Layout). FitsLayer l (dims, (sizes, parents))) (layout_is_of desc g.0.1) g.1)

pub seal_made : (t : Task) (s : SealBody) → t ≡ task.Seal s → product.Seal s ≡ step_compute t
seal_made t s e = sym (ap step_compute e)
