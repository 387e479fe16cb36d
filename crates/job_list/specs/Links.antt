-- How the slots of a linked list hold it.
use Rattle.std.specs.Prelude.{ℕ, zero, suc, ◌^◌, ◌<◌, ◌≡◌, ◌==◌, if◌then◌else◌, Option, Some, None, List, [], ◌∷◌, length, slice_get, slice_set}
use Rattle.std.specs.List.{slice_index_or}
use Rattle.job_list.specs.declared.link.Link.{Link}
use Rattle.job_list.specs.JobList.{NoRepeats}

-- the slot of a number; None where the number isn't in the list
abbrev pub slot_at : List (Option Link) → ℕ → Option Link
slot_at slots id = slice_index_or slots id None

-- the number that a slot leads on to
abbrev pub next_of : Option Link → Option ℕ
next_of None = None
next_of (Some link) = link.next

-- the list that is met on the way from a number along the next links, of this length
abbrev pub walked : ℕ → Option ℕ → List (Option Link) → List ℕ
walked zero from slots = []
walked (suc length) None slots = []
walked (suc length) (Some id) slots = id ∷ walked length (next_of (slot_at slots id)) slots

-- the slot that a number has in a list, before whose first item another may stand
abbrev pub slot_in : Option ℕ → List ℕ → ℕ → Option Link
slot_in before [] id = None
slot_in before (item ∷ rest) id =
    if item == id then Some (record { previous = before; next = slice_get rest 0 }) else slot_in (Some item) rest id

-- the last item of a list, before whose first item another may stand
abbrev pub last_in : Option ℕ → List ℕ → Option ℕ
last_in before [] = before
last_in before (item ∷ rest) = last_in (Some item) rest

-- the slots hold this list, from its head to its tail: the slot of each item has the items before and after it, and a number
-- that isn't in the list has none; there are few enough slots that a number of 32 bits counts them
pub record IsLinked (items : List ℕ) (slots : List (Option Link)) (head tail : Option ℕ) (len : ℕ) : Type 0 where
  pub links : (id : ℕ) → slot_at slots id ≡ slot_in None items id
  pub first : head ≡ slice_get items 0
  pub last : tail ≡ last_in None items
  pub count : len ≡ length items
  pub distinct : NoRepeats items
  pub within : length slots < 2 ^ 32

-- a slot that leads on to another number, or back to another
abbrev pub leading_on : Option ℕ → Option Link → Option Link
leading_on next None = None
leading_on next (Some link) = Some (record link { next = next })

abbrev pub leading_back : Option ℕ → Option Link → Option Link
leading_back previous None = None
leading_back previous (Some link) = Some (record link { previous = previous })

-- the slots in which the slot of a number, where one is given, leads on to another number, or back to another
abbrev pub with_next : Option ℕ → Option ℕ → List (Option Link) → List (Option Link)
with_next None next slots = slots
with_next (Some id) next slots = slice_set slots id (leading_on next (slot_at slots id))

abbrev pub with_previous : Option ℕ → Option ℕ → List (Option Link) → List (Option Link)
with_previous None previous slots = slots
with_previous (Some id) previous slots = slice_set slots id (leading_back previous (slot_at slots id))

-- an end of the list once a number is gone: its inner neighbour where it had no outer one, else the end as it was
abbrev pub end_without : Option ℕ → Option ℕ → Option ℕ → Option ℕ
end_without None inner end = inner
end_without (Some outer) inner end = end
