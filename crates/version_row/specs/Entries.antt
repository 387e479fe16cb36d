-- What stands at the places of a row, and its tokens.
use Rattle.std.specs.Prelude.{refl}
use Rattle.std.specs.Coded.{Coded, code_by, coded×}
use Rattle.boxcar.specs.Table.{Where, where_coded}
use Rattle.cube_desc.specs.Meaning.{Descriptor}
use Rattle.cube_desc.specs.contracts.desc.CubeDesc as desc_contract

-- a published set, and the descriptor of the row that it was published in
pub record Entry (S : Type 0) : Type 0 where
  pub desc : Descriptor
  pub set : S

abbrev pub entry_code : {S : Type 0} → Coded S → Coded (Entry S)
entry_code {S} c = code_by (Descriptor × S) (coded× desc_contract.the_row.coded c) (λ (e : Entry S). (e.desc, e.set)) (λ p. record { desc = p.0; set = p.1 }) (λ _. refl)

-- a token: a place of a row with what stands there
abbrev pub Token : Type 0 → Type 0
Token S = Where (Entry S)

abbrev pub token_code : {S : Type 0} → Coded S → Coded (Token S)
token_code c = where_coded (entry_code c)
