-- Blocks on which the definitions of their texts are computed.
use Rattle.std.specs.Prelude.{pos, negsuc, [], ◌∷◌, codes}
use Rattle.plain_answer.specs.declared.answer.OutVal.TheVariants.{Null, Units, Whole, Text}
use Rattle.run_history.specs.declared.refused.Refused.{Refused}
use Rattle.script_text.specs.declared.block.Block.{Block}
use Rattle.script_text.specs.declared.block.Block.TheVariants as block
use Rattle.script_text.specs.declared.block.Tally.{Tally}

-- an answer of two rows, with every kind of value
abbrev pub two_rows : Block
two_rows = block.Answer (record {
  names = codes "D1" ∷ codes "COUNT(*)" ∷ codes "AVG(M)" ∷ [];
  rows = (Text (codes "a,b") ∷ Whole (pos 1) ∷ Units (negsuc 4999) ∷ []) ∷ (Null ∷ Whole (pos 12) ∷ Units (pos 3105100) ∷ []) ∷ [];
})

abbrev pub four_jobs : Tally
four_jobs = record { finished = 1; error = 2; stopped = 0; discarded = 1 }

abbrev pub refused : Refused → Block
refused reason = block.Refused reason
