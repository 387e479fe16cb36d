-- Small groups, on which the definitions are computed.
use Rattle.std.specs.Prelude.{ℕ, List, [], ◌∷◌, map, Some, None}
use Rattle.agg_group.specs.Rules.{Rules}
use Rattle.agg_group.specs.Built.{built_masks}

-- dimensions 0 and 1, without rules
abbrev pub free : Rules
free = record { includes = 0 ∷ 1 ∷ []; mandatory = []; hierarchies = []; joints = []; cap = None }

-- .. 0 before 1
abbrev pub ordered : Rules
ordered = record { includes = 0 ∷ 1 ∷ []; mandatory = []; hierarchies = (0 ∷ 1 ∷ []) ∷ []; joints = []; cap = None }

-- .. 0 with 1, and 2
abbrev pub joined : Rules
joined = record { includes = 0 ∷ 1 ∷ 2 ∷ []; mandatory = []; hierarchies = []; joints = (0 ∷ 1 ∷ []) ∷ []; cap = None }

-- .. always 1
abbrev pub required : Rules
required = record { includes = 0 ∷ 1 ∷ []; mandatory = 1 ∷ []; hierarchies = []; joints = []; cap = None }

-- dimensions 0, 1 and 2, at most two of them in a cuboid
abbrev pub capped : Rules
capped = record { includes = 0 ∷ 1 ∷ 2 ∷ []; mandatory = []; hierarchies = []; joints = []; cap = Some 2 }

-- .. 2 always, which counts
abbrev pub capped_required : Rules
capped_required = record { includes = 0 ∷ 1 ∷ 2 ∷ []; mandatory = 2 ∷ []; hierarchies = []; joints = []; cap = Some 2 }

-- a joint of a dimension that is mandatory too, and of one that isn't included
abbrev pub faulty : Rules
faulty = record { includes = 0 ∷ 1 ∷ []; mandatory = 1 ∷ []; hierarchies = []; joints = (1 ∷ 2 ∷ []) ∷ []; cap = None }

-- the numbers of the built masks
abbrev pub numbers : ℕ → List Rules → List ℕ
numbers n groups = map (λ m. m.0) (built_masks n groups)
