-- What holds of all bodies.
use Rattle.std.specs.Prelude.{◌<◌, ◌^◌, ℕ, List}
use Rattle.byte_frame.specs.Exact.{Exact}
use Rattle.cube_fields.specs.Dicts.{dicts_text}
use Rattle.cube_val.specs.declared.val.Val.{Val}
use Rattle.step_codec.specs.Bodies.{FitsAllLoaded, FitsHolding, FitsLayer, layer_text, loaded_text}
use Rattle.step_codec.specs.Layouts.{IsLayout}
use Rattle.step_codec.specs.Reading.{all_loaded_at, holding_at, layer_at}
use Rattle.step_codec.specs.Seals.{FitsSeal, seal_at, seal_text}
use Rattle.step_codec.specs.declared.layout.Layout.{Layout}

-- each is read exactly: what fits is read again from what it is written as, whatever follows, and what is read was so written and fits
pub record BodiesAreExact : Type 0 where
  pub loaded : (l : Layout) → Exact loaded_text (FitsAllLoaded l) (all_loaded_at l)
  pub holding : (l : Layout) (limit : ℕ) (rows : List (List Val)) → IsLayout l → limit < 2 ^ 32 → Exact dicts_text (FitsHolding l limit rows) (holding_at l limit rows)
  pub layer : (l : Layout) → IsLayout l → Exact layer_text (FitsLayer l) (layer_at l)
  pub seal : Exact seal_text FitsSeal seal_at
