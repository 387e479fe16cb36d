-- How far a text has been read.
use Rattle.std.specs.Prelude.{ℕ, Bool, true, false, List, ◌++◌, Option, option_map}
use Rattle.sql_tokens.specs.declared.quote.QuotedText.{QuotedText}

-- what was read, and then this
abbrev pub joined : List ℕ → Option (List ℕ) → Option (List ℕ)
joined read rest = option_map (λ (bs : List ℕ). read ++ bs) rest

-- one where a quote was passed that isn't yet read
abbrev pub pending : Bool → ℕ
pending false = 0
pending true = 1

abbrev pub said_of : QuotedText → List ℕ
said_of quoted = quoted.text.items
