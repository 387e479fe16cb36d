use Rattle.step_files.specs.declared.task.Task.TheVariants as task
use Rattle.step_task.proofs.MadeFacts.{base_desc, base_dicts, base_few, dict_desc, dict_few, flat_desc, flat_tables, layer_desc, layer_parents, made_as, not_err, seal_made}
use Rattle.step_compute.proofs.WatchFacts.{looked_none}
use Rattle.step_task.proofs.making.made.Goals as goal

pub flat_product-requires-clause-desc : goal.flat_product-requires-clause-desc
flat_product-requires-clause-desc g c = flat_desc c.args.task c.requires c.in-Flat.desc c.in-Flat.range c.in-Flat.tables c.in-Flat.is

pub flat_product-requires-clause-tables : goal.flat_product-requires-clause-tables
flat_product-requires-clause-tables g c = flat_tables c.args.task c.requires c.in-Flat.desc c.in-Flat.range c.in-Flat.tables c.in-Flat.is

pub returns-in-Flat-clause-product : goal.returns-in-Flat-clause-product
returns-in-Flat-clause-product g c = made_as c.flat_product.result c.args.task (task.Flat c.in-Flat.desc c.in-Flat.range c.in-Flat.tables) c.in-Flat.is c.flat_product.ensures.product

pub returns-in-Flat-clause-looked : goal.returns-in-Flat-clause-looked
returns-in-Flat-clause-looked g c = c.flat_product.ensures.looked

pub returns-in-Flat-clause-stopped : goal.returns-in-Flat-clause-stopped
returns-in-Flat-clause-stopped g c = c.flat_product.ensures.stopped

pub dict_product-requires-clause-desc : goal.dict_product-requires-clause-desc
dict_product-requires-clause-desc g c = dict_desc c.args.task c.requires c.in-Dict.desc c.in-Dict.flat c.in-Dict.is

pub dict_product-requires-clause-few : goal.dict_product-requires-clause-few
dict_product-requires-clause-few g c = dict_few c.args.task c.requires c.in-Dict.desc c.in-Dict.flat c.in-Dict.is

pub returns-in-Dict-clause-product : goal.returns-in-Dict-clause-product
returns-in-Dict-clause-product g c = made_as c.dict_product.result c.args.task (task.Dict c.in-Dict.desc c.in-Dict.flat) c.in-Dict.is c.dict_product.ensures.product

pub returns-in-Dict-clause-looked : goal.returns-in-Dict-clause-looked
returns-in-Dict-clause-looked g c = c.dict_product.ensures.looked

pub returns-in-Dict-clause-stopped : goal.returns-in-Dict-clause-stopped
returns-in-Dict-clause-stopped g c = c.dict_product.ensures.stopped

pub base_product-requires-clause-desc : goal.base_product-requires-clause-desc
base_product-requires-clause-desc g c κs within = base_desc c.args.task c.requires c.in-Base.desc c.in-Base.flat c.in-Base.dicts c.in-Base.is

pub base_product-requires-clause-dicts : goal.base_product-requires-clause-dicts
base_product-requires-clause-dicts g c κs within = base_dicts c.args.task c.requires c.in-Base.desc c.in-Base.flat c.in-Base.dicts c.in-Base.is

pub base_product-requires-clause-few : goal.base_product-requires-clause-few
base_product-requires-clause-few g c κs within = base_few c.args.task c.requires c.in-Base.desc c.in-Base.flat c.in-Base.dicts c.in-Base.is

pub returns-in-Base-clause-product : goal.returns-in-Base-clause-product
returns-in-Base-clause-product g c = made_as c.base_product.result c.args.task (task.Base c.in-Base.desc c.in-Base.flat c.in-Base.dicts) c.in-Base.is c.base_product.ensures.product

pub returns-in-Base-clause-looked : goal.returns-in-Base-clause-looked
returns-in-Base-clause-looked g c = c.base_product.ensures.looked

pub returns-in-Base-clause-stopped : goal.returns-in-Base-clause-stopped
returns-in-Base-clause-stopped g c = c.base_product.ensures.stopped

pub layer_product-requires-clause-desc : goal.layer_product-requires-clause-desc
layer_product-requires-clause-desc g c κs within = layer_desc c.args.task c.requires c.in-Layer.desc c.in-Layer.dims c.in-Layer.sizes c.in-Layer.parents c.in-Layer.is

pub layer_product-requires-clause-parents : goal.layer_product-requires-clause-parents
layer_product-requires-clause-parents g c κs within = layer_parents c.args.task c.requires c.in-Layer.desc c.in-Layer.dims c.in-Layer.sizes c.in-Layer.parents c.in-Layer.is

pub returns-in-Layer-clause-product : goal.returns-in-Layer-clause-product
returns-in-Layer-clause-product g c = made_as c.layer_product.result c.args.task (task.Layer c.in-Layer.desc c.in-Layer.dims c.in-Layer.sizes c.in-Layer.parents) c.in-Layer.is c.layer_product.ensures.product

pub returns-in-Layer-clause-looked : goal.returns-in-Layer-clause-looked
returns-in-Layer-clause-looked g c = c.layer_product.ensures.looked

pub returns-in-Layer-clause-stopped : goal.returns-in-Layer-clause-stopped
returns-in-Layer-clause-stopped g c = c.layer_product.ensures.stopped

pub returns-clause-product : goal.returns-clause-product
returns-clause-product g c = seal_made c.args.task c.in-Seal.seal c.in-Seal.is

pub returns-clause-looked : goal.returns-clause-looked
returns-clause-looked g c = looked_none g.W.Watch.seen g.W.Watch.there g.W.Watch.held g.W.Watch.place c.args.watch.now

pub returns-clause-stopped : goal.returns-clause-stopped
returns-clause-stopped g c = λ h. absurd (not_err _ _ h)
