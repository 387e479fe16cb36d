-- What a descriptor says, with numbers for names.
use Rattle.std.specs.Prelude.{ℕ, List}
use Rattle.cube_val.specs.declared.form.WideCol.{WideCol}
use Rattle.cube_val.specs.declared.form.JoinPlan.{JoinPlan}
use Rattle.agg_group.specs.Rules.{Rules}
use Rattle.agg_group.specs.declared.mask.Mask.{Mask}
use Rattle.cube_desc.specs.declared.desc.TableDesc.{TableDesc}
use Rattle.cube_desc.specs.declared.desc.MeasureDesc.{MeasureDesc}
use Rattle.cube_desc.specs.declared.desc.DerivedDesc.{DerivedDesc}

pub record Cube : Type 0 where
  pub name : List ℕ
  pub tables : List TableDesc
  pub measures : List MeasureDesc
  pub rowkey : List WideCol
  pub derived : List DerivedDesc
  pub groups : List Rules
  pub masks : List Mask
  pub plan : JoinPlan
