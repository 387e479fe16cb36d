-- The places of tokens rise.
use Rattle.std.proofs.Common.{◌≡◌, ℕ, suc, ◌+◌, ◌≤◌, List, [], ◌∷◌, length, drop, Some, None, ap, arith, length-drop}
use Rattle.std.proofs.lemmas.List.Sums.{prefix_len-le-length}
use Rattle.sql_tokens.specs.declared.token.Token.{Token}
use Rattle.sql_tokens.specs.Cuts.{is_blank, gap, skip, Cuts}
use Rattle.sql_tokens.specs.Laws.{Rise, PlacesRise}
use Rattle.sql_tokens.proofs.Within.{token_within}

rise_from : (least more : ℕ) (ts : List Token) (stop : ℕ) → least ≤ more → Rise more ts stop → Rise least ts stop
rise_from least more [] stop le h = omega arith
rise_from least more (t ∷ ts) stop le h = (omega (arith, h.0), h.1)

-- a cut's tokens rise up to where it ends, and no byte is lost
pub record IsCut (p : ℕ) (text : List ℕ) (ts : List Token) (q : ℕ) (rest : List ℕ) : Type 0 where
  pub rise : Rise p ts q
  pub whole : p + length text ≡ q + length rest

cut_rises : (p : ℕ) (text : List ℕ) (ts : List Token) (q : ℕ) (rest : List ℕ) → Cuts p text ts q rest → IsCut p text ts q rest
cut_rises p text [] q rest c = record { rise = omega (arith, c.0); whole = omega (arith, c.0, ap length c.1) }
cut_rises p text (t ∷ ts) q rest c =
    let within = token_within (skip text) t.kind t.payload c.0 c.1 in
    let ih = cut_rises (p + gap text + c.0) (drop c.0 (skip text)) ts q rest c.3 in
    let blanks = prefix_len-le-length is_blank text in
    record {
      rise = (omega (arith, c.2), rise_from (suc t.place) (p + gap text + c.0) ts q (omega (arith, c.2, within.0)) ih.rise);
      whole = omega (arith, ih.whole, within.1, length-drop c.0 (skip text), length-drop (gap text) text);
    }

rise_to : (least : ℕ) (ts : List Token) (stop more : ℕ) → stop ≤ more → Rise least ts stop → Rise least ts more
rise_to least [] stop more le h = omega (arith, h)
rise_to least (t ∷ ts) stop more le h = (h.0, rise_to (suc t.place) ts stop more le h.1)

pub places_rise : PlacesRise
places_rise text ts None h =
    let c = cut_rises 0 text ts h.at h.rest h.cut in
    rise_to 0 ts h.at (length text) (omega (arith, c.whole)) c.rise
places_rise text ts (Some fault) h =
    let c = cut_rises 0 text ts h.at h.rest h.cut in
    rise_to 0 ts h.at fault.place (omega (arith, h.stop.1)) c.rise
