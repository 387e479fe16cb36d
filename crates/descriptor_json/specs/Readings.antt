-- What is read of a JSON value at a place, and how readings are put together.
use Rattle.std.specs.Prelude.{ℕ, suc, ◌^◌, nat_lt, if◌then◌else◌, List, [], ◌∷◌, map, Option, Some, None, Result, Ok, Err}
use Rattle.std.specs.Char.{to_ascii_uppercase}
use Rattle.serde_json.specs.Data.{Data, Items, no_items, item}
use Rattle.serde_json.specs.Find.{get, as_number, as_u64, as_str, as_array, as_object}
use Rattle.descriptor_json.specs.Places.{JsonPointer, at_key, at_index}
use Rattle.descriptor_json.specs.declared.raw.RawList.{RawList}
use Rattle.descriptor_json.specs.declared.raw.RawName.{RawName}
use Rattle.descriptor_json.specs.declared.raw.RawWord.{RawWord}
use Rattle.descriptor_json.specs.declared.raw.RawNumber.{RawNumber}
use Rattle.descriptor_json.specs.declared.raw.RawNumber.TheVariants.{Whole, Other}

-- the value that is read, or the first place that is missing or wrong
abbrev pub Reading : Type 0 → Type 0
Reading A = Result A JsonPointer

abbrev pub Reader : Type 0 → Type 0
Reader A = JsonPointer → Data → Reading A

-- what comes next, unless something before it is missing or wrong
abbrev pub after : {A B : Type 0} → Reading A → (A → Reading B) → Reading B
after (Ok a) next = next a
after (Err p) next = Err p

-- what a thing that is there is read as; if it isn't there, its place is missing or wrong
abbrev pub if_there : {X A : Type 0} → Option X → JsonPointer → (X → Reading A) → Reading A
if_there (Some x) p f = f x
if_there None p f = Err p

-- a text
abbrev pub word_at : Reader RawWord
word_at p d = if_there (as_str d) p (λ s. Ok (record { text = s; place = p }))

-- a text in upper case
abbrev pub name_at : Reader RawName
name_at p d = if_there (as_str d) p (λ s. Ok (record { text = map to_ascii_uppercase s; place = p }))

-- a number: as it is where it is whole and below 2^32
abbrev pub number_of : Option ℕ → RawNumber
number_of None = Other
number_of (Some n) = if nat_lt n (2 ^ 32) then Whole n else Other

abbrev pub number_at : Reader (Option RawNumber)
number_at p d = if_there (as_number d) p (λ n. Ok (Some (number_of (as_u64 n))))

-- an object, which has what the reading says
abbrev pub object_at : {A : Type 0} → JsonPointer → Data → Reading A → Reading A
object_at p d r = if_there (as_object d) p (λ _. r)

-- the value at a key that has to be there
abbrev pub member_at : {A : Type 0} → Reader A → List ℕ → Reader A
member_at f key p d = if_there (get key d) (at_key p key) (f (at_key p key))

-- the value at a key that may be absent, and what stands for it then
abbrev pub given_or : {A : Type 0} → Reader A → A → JsonPointer → Option Data → Reading A
given_or f absent p None = Ok absent
given_or f absent p (Some d) = f p d

abbrev pub member_or : {A : Type 0} → Reader A → A → List ℕ → Reader A
member_or f absent key p d = given_or f absent (at_key p key) (get key d)

-- the items of a list, from the one at place i on
abbrev pub items_at : {A : Type 0} → Reader A → JsonPointer → ℕ → Items → Reading (List A)
items_at f p i no_items = Ok []
items_at f p i (item d ds) = after (f (at_index p i) d) (λ x. after (items_at f p (suc i) ds) (λ xs. Ok (x ∷ xs)))

-- a list, each item read so
abbrev pub list_at : {A : Type 0} → Reader A → Reader (List A)
list_at f p d = if_there (as_array d) p (items_at f p 0)

-- the same with the list's place
abbrev pub placed_at : {A : Type 0} → Reader A → Reader (RawList A)
placed_at f p d = after (list_at f p d) (λ xs. Ok (record { place = p; items = xs }))

-- a list with its place at a key that may be absent
abbrev pub optional_at : {A : Type 0} → Reader A → List ℕ → Reader (RawList A)
optional_at f key p d = member_or (placed_at f) (record { place = at_key p key; items = [] }) key p d
