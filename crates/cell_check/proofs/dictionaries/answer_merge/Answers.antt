use Rattle.std.proofs.Common.{◌<◌, ◌^◌, List, length, subst, sym}
use Rattle.cube_val.specs.declared.val.Val.{Val}
use Rattle.dim_dictionary.specs.Dictionaries.{merged_dictionary}
use Rattle.cell_check.proofs.dictionaries.answer_merge.Goals as goal

pub put_merged-requires : goal.put_merged-requires
put_merged-requires g c =
    subst (λ (parts : List (List Val)). length (merged_dictionary parts) < 2 ^ 32) (sym c.deref.ensures.value) c.in_ok-parts.ensures
