-- Digests of keys, by the hasher of std's hash maps.
use Rattle.std.specs.Prelude.{ℕ, List, [], ◌∷◌, fold, map}
use Rattle.std.specs.Hash as fed
use Rattle.std.specs.Hash.FoldHasher as folding
use Rattle.std.specs.declared.hash.FoldHasher.{FoldHasher}
use Rattle.cube_val.specs.declared.val.Val.{Val}
use Rattle.cube_val.specs.declared.val.Val.TheVariants.{Null, Int, Text}
use Rattle.table_reader.specs.Keys.{key_of}

-- the hasher after a value: it is given no byte of a null, the eight bytes of a number, the bytes of a text
unfoldable pub fed_with : FoldHasher → Val → FoldHasher
fed_with state Null = folding.write state []
fed_with state (Int n) = fold folding.write state (fed.i64 n)
fed_with state (Text t) = folding.write state t

-- what the hasher ends with once it was given the values of the key
unfoldable pub digest_of : List Val → ℕ
digest_of key = folding.finish (fold fed_with folding.initial key)

-- the digest of a row's key
abbrev pub row_digest : List ℕ → List Val → ℕ
row_digest places row = digest_of (key_of places row)

-- the digests of the rows' keys, in the order of the rows, and none where a key has no column
abbrev pub digests_of : List ℕ → List (List Val) → List ℕ
digests_of [] rows = []
digests_of (place ∷ places) rows = map (row_digest (place ∷ places)) rows
