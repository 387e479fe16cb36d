-- Rows of published sets.
use Rattle.std.specs.Prelude.{◌≡◌, ℕ, refl}
use Rattle.std.specs.Coded.{Coded, code_by, coded×}
use Rattle.boxcar.specs.Table.{Shelves, Shows, shelves_coded}
use Rattle.cube_desc.specs.Meaning.{Descriptor}
use Rattle.cube_desc.specs.contracts.desc.CubeDesc as desc_contract
use Rattle.version_row.specs.Entries.{Token}

-- a row: the descriptor that its sets are built for, and their places
pub record Row : Type 0 where
  pub desc : Descriptor
  pub places : Shelves

abbrev pub row_code : Coded Row
row_code = code_by (Descriptor × Shelves) (coded× desc_contract.the_row.coded shelves_coded) (λ (r : Row). (r.desc, r.places)) (λ p. record { desc = p.0; places = p.1 }) (λ _. refl)

-- the place that a token names
abbrev pub place_of : {S : Type 0} → Token S → ℕ
place_of token = token.index

-- the set that was published at that place
abbrev pub set_of : {S : Type 0} → Token S → S
set_of token = token.value.set

-- the token is of this row: its place is one of the row's, and what stands there was published under the row's descriptor
pub record IsOf {S : Type 0} (row : Row) (token : Token S) : Type 0 where
  pub shown : Shows row.places token
  pub own : token.value.desc ≡ row.desc
