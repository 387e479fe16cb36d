-- Cells kept by key, as code fills them part by part.
use Rattle.std.specs.Prelude.{◌≡◌, Some, None, if◌then◌else◌}
use Rattle.std.specs.declared.option.Option.{Option}
use Rattle.std.specs.declared.cmp.Ordering.{Ordering}
use Rattle.std.specs.BTreeMap.{BTreeMap, get}
use Rattle.std.specs.Ordering.{eq_by_cmp}

-- what a key has after a part was added: the part alone where it had no cell, else the merge of the two
abbrev pub plus : {M : Type 0} → (M → M → M) → Option M → M → M
plus merge None part = part
plus merge (Some cell) part = merge cell part

-- the new cells are the old ones with a part added at a key
abbrev pub Adds : {K M : Type 0} → (K → K → Ordering) → (M → M → M) → BTreeMap K M → BTreeMap K M → K → M → Type 0
Adds {K} cmp merge old new key part = (q : K) → get cmp new q ≡ (if eq_by_cmp cmp q key then Some (plus merge (get cmp old key) part) else get cmp old q)
