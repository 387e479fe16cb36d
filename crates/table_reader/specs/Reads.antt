-- How far a reader of records has come.
use Rattle.std.specs.Prelude.{◌≡◌, ℕ, List, Some}
use Rattle.std.proofs.Common.{Bor}
use Rattle.csv.specs.Reading.{Reached, Ready, default_config, source_of, strip_bom}
use Rattle.csv.specs.declared.parser.State.TheVariants as st
use Rattle.csv.specs.declared.reader.Reader.{Reader}
use Rattle.csv.specs.declared.reader.Trim.TheVariants as trim

-- the reader has read these records of the bytes, with the default settings, and goes on with what is left of them
pub record HasRead (bytes : List ℕ) (records : List (List (List ℕ))) (reader : Reader (Bor (List ℕ))) : Type 0 where
  pub untrimmed : reader.trim ≡ trim.None
  pub ready : Ready reader
  pub config : reader.config ≡ default_config
  pub left : List ℕ
  pub source : source_of (λ s. Some s.now) reader ≡ Some left
  pub reached : Reached default_config st.StartRecord (strip_bom bytes) records reader.state left
