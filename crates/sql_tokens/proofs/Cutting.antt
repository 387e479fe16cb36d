-- Cutting a text: one token more, and that there is one way alone.
use Rattle.std.proofs.Common.{◌≡◌, ℕ, ◌+◌, ◌-◌, ◌≤◌, ◌<◌, List, [], ◌∷◌, ◌++◌, length, take, drop, Option, Some, None, refl, sym, ap, subst, ◌∙◌, arith, drop-drop, length-drop}
use Rattle.std.proofs.lemmas.Grind.{common_steps}
use Rattle.sql_tokens.specs.declared.kind.Kind.{Kind}
use Rattle.query_faults.specs.declared.sql.SqlFault.{SqlFault}
use Rattle.query_faults.specs.declared.sql.SqlKind.{SqlKind}
use Rattle.sql_tokens.specs.declared.payload.Payload.{Payload}
use Rattle.sql_tokens.specs.declared.lexeme.Lexeme.{Lexeme}
use Rattle.sql_tokens.specs.declared.lexeme.Lexeme.TheVariants as lexeme
use Rattle.sql_tokens.specs.declared.token.Token.{Token}
use Rattle.sql_tokens.specs.Lexemes.{next_at}
use Rattle.sql_tokens.proofs.Within.{token_within}
use Rattle.sql_tokens.specs.Cuts.{gap, skip, Cuts, IsStop, AreTokens}
use Rattle.sql_tokens.specs.Laws.{TokensAreUnique}

-- a token stands in front of a text at this place
abbrev pub Stands : ℕ → List ℕ → Token → ℕ → Type 0
Stands q rest t len = (next_at (skip rest) ≡ lexeme.Token t.kind t.payload len) × (t.place ≡ q + gap rest)

pub cuts_one : (p : ℕ) (text : List ℕ) (ts : List Token) (q : ℕ) (rest : List ℕ) (t : Token) (len : ℕ) → Cuts p text ts q rest → Stands q rest t len → Cuts p text (ts ++ t ∷ []) (q + gap rest + len) (drop len (skip rest))
cuts_one p text [] q rest t len c e = (len, rw c.1 e.0, rw (c.0, c.1) e.1, (rw (c.0, c.1) refl, rw c.1 refl))
cuts_one p text (s ∷ ts) q rest t len c e = (c.0, c.1, c.2, cuts_one (p + gap text + c.0) (drop c.0 (skip text)) ts q rest t len c.3 e)

-- ---- one way alone

pub record SameCut (ts us : List Token) (q q' : ℕ) (rest rest' : List ℕ) : Type 0 where
  pub tokens : ts ≡ us
  pub place : q ≡ q'
  pub rests : rest ≡ rest'

lexeme_is : (kind kind' : Kind) (payload payload' : Payload) (n m : ℕ) → lexeme.Token kind payload n ≡ lexeme.Token kind' payload' m → (kind ≡ kind') × (payload ≡ payload') × (n ≡ m)
lexeme_is kind kind' payload payload' n m e = (cc, cc, cc)

abbrev token_of : Kind × Payload × ℕ → Token
token_of w = record { kind = w.0; place = w.2; payload = w.1 }

token_is : (s t : Token) → s.kind ≡ t.kind → s.payload ≡ t.payload → s.place ≡ t.place → s ≡ t
token_is s t a b c = let parts : (s.kind, s.payload, s.place) ≡ (t.kind, t.payload, t.place) = cc in ap (λ (w : Kind × Payload × ℕ). token_of w) parts

abbrev NoToken : ℕ → List ℕ → Type 0
NoToken q rest = (t : Token) (len : ℕ) → Stands q rest t len → ⊥

-- two cuts that both end where no token follows
one_cut : (p : ℕ) (text : List ℕ) (ts us : List Token) (q q' : ℕ) (rest rest' : List ℕ) → Cuts p text ts q rest → Cuts p text us q' rest' → NoToken q rest → NoToken q' rest' → SameCut ts us q q' rest rest'
one_cut p text [] [] q q' rest rest' c d none none' = record { tokens = refl; place = sym c.0 ∙ d.0; rests = sym c.1 ∙ d.1 }
one_cut p text [] (u ∷ us) q q' rest rest' c d none none' = absurd (none u d.0 (rw (← c.1) d.1, rw (← c.0, ← c.1) d.2))
one_cut p text (t ∷ ts) [] q q' rest rest' c d none none' = absurd (none' t c.0 (rw (← d.1) c.1, rw (← d.0, ← d.1) c.2))
one_cut p text (t ∷ ts) (u ∷ us) q q' rest rest' c d none none' =
    let same = lexeme_is t.kind u.kind t.payload u.payload c.0 d.0 (sym c.1 ∙ d.1) in
    let d' : Cuts (p + gap text + c.0) (drop c.0 (skip text)) us q' rest' = subst (λ (n : ℕ). Cuts (p + gap text + n) (drop n (skip text)) us q' rest') (sym same.2) d.3 in
    let ih = one_cut (p + gap text + c.0) (drop c.0 (skip text)) ts us q q' rest rest' c.3 d' none none' in
    record { tokens = (let a = token_is t u same.0 same.1 (c.2 ∙ sym d.2) in let b = ih.tokens in cc); place = ih.place; rests = ih.rests }

no_token : (fault : Option SqlFault) (q : ℕ) (rest : List ℕ) → IsStop fault (q + gap rest) (next_at (skip rest)) → NoToken q rest
no_token None q rest e = λ t len f. (let g = f.0 in cc)
no_token (Some fault) q rest e = λ t len f. (let g = f.0 in let h = e.0 in cc)

abbrev fault_of : SqlKind × ℕ → SqlFault
fault_of w = record { place = w.1; kind = w.0 }

fault_is : (a b : SqlFault) → a.kind ≡ b.kind → a.place ≡ b.place → Some a ≡ Some b
fault_is a b e f = let parts : (a.kind, a.place) ≡ (b.kind, b.place) = cc in ap (λ (w : SqlKind × ℕ). Some (fault_of w)) parts

stop_is : (a b : Option SqlFault) (place : ℕ) (next : Lexeme) → IsStop a place next → IsStop b place next → a ≡ b
stop_is None None place next e f = refl
stop_is None (Some b) place next e f = absurd (let g = f.0 in cc)
stop_is (Some a) None place next e f = absurd (let g = e.0 in cc)
stop_is (Some a) (Some b) place next e f = fault_is a b (let g = e.0 in let h = f.0 in cc) (e.1 ∙ sym f.1)

pub tokens_are_unique : TokensAreUnique
tokens_are_unique text ts us a b h k =
    let s = one_cut 0 text ts us h.at k.at h.rest k.rest h.cut k.cut (no_token a h.at h.rest h.stop) (no_token b k.at k.rest k.stop) in
    let stop : IsStop a (k.at + gap k.rest) (next_at (skip k.rest)) = subst (λ (w : ℕ × List ℕ). IsStop a (w.0 + gap w.1) (next_at (skip w.1))) (let e = s.place in let f = s.rests in let g : (h.at, h.rest) ≡ (k.at, k.rest) = cc in g) h.stop in
    (s.tokens, stop_is a b (k.at + gap k.rest) (next_at (skip k.rest)) stop k.stop)

-- ---- a step of the loop

pub tail : (text : List ℕ) (at : ℕ) → take (length text - at) (drop at text) ≡ drop at text
tail text at = grind (arith, common_steps)

pub skipped : (text : List ℕ) (at blank : ℕ) → blank ≡ gap (drop at text) → skip (drop at text) ≡ drop (at + blank) text
skipped text at blank e = ap (λ (w : ℕ). drop w (drop at text)) (sym e) ∙ drop-drop blank at text

pub cut_more : (text : List ℕ) (at blank len : ℕ) (ts ts' : List Token) (t : Token) (next : Lexeme) → (at ≤ length text) × Cuts 0 text ts at (drop at text) → blank ≡ gap (drop at text) → blank ≤ length (drop at text) → next ≡ next_at (drop (at + blank) text) → next ≡ lexeme.Token t.kind t.payload len → t.place ≡ at + blank → ts' ≡ ts ++ t ∷ [] → (at + blank + len ≤ length text) × Cuts 0 text ts' (at + blank + len) (drop (at + blank + len) text)
cut_more text at blank len ts ts' t next inv blank-is fits read token-is place-is more =
    let rest-is = skipped text at blank blank-is in
    let far-is : drop len (skip (drop at text)) ≡ drop (at + blank + len) text = ap (λ (w : List ℕ). drop len w) rest-is ∙ drop-drop len (at + blank) text in
    let next-is : next_at (skip (drop at text)) ≡ lexeme.Token t.kind t.payload len = ap (λ (w : List ℕ). next_at w) rest-is ∙ sym read ∙ token-is in
    let here : at + blank ≡ at + gap (drop at text) = ap (λ (w : ℕ). at + w) blank-is in
    let one : Cuts 0 text (ts ++ t ∷ []) (at + gap (drop at text) + len) (drop len (skip (drop at text))) = cuts_one 0 text ts at (drop at text) t len inv.1 (next-is, place-is ∙ here) in
    let room = token_within (drop (at + blank) text) t.kind t.payload len (sym read ∙ token-is) in (
      omega (arith, length-drop at text, length-drop (at + blank) text, room.1),
      subst (λ (w : List Token). Cuts 0 text w (at + blank + len) (drop (at + blank + len) text)) (sym more) (subst (λ (w : ℕ). Cuts 0 text (ts ++ t ∷ []) (w + len) (drop (at + blank + len) text)) (sym here) (subst (λ (w : List ℕ). Cuts 0 text (ts ++ t ∷ []) (at + gap (drop at text) + len) w) far-is one)),
    )

-- where no token follows
pub stops : (text : List ℕ) (at blank : ℕ) (ts : List Token) (fault : Option SqlFault) → Cuts 0 text ts at (drop at text) → blank ≡ gap (drop at text) → IsStop fault (at + blank) (next_at (drop (at + blank) text)) → AreTokens text ts fault
stops text at blank ts fault cut blank-is stop =
    let rest-is = skipped text at blank blank-is in
    record {
      at = at;
      rest = drop at text;
      cut = cut;
      stop = subst (λ (w : List ℕ). IsStop fault (at + gap (drop at text)) (next_at w)) (sym rest-is) (subst (λ (w : ℕ). IsStop fault (at + w) (next_at (drop (at + blank) text))) blank-is stop);
    }

-- a token lies within the text
pub token_room : (text : List ℕ) (at blank len : ℕ) (kind : Kind) (payload : Payload) (next : Lexeme) → at ≤ length text → blank ≤ length (drop at text) → next ≡ next_at (drop (at + blank) text) → next ≡ lexeme.Token kind payload len → (0 < len) × (at + blank + len ≤ length text)
token_room text at blank len kind payload next low fits read token-is =
    let room = token_within (drop (at + blank) text) kind payload len (sym read ∙ token-is) in
    (room.0, omega (arith, length-drop at text, length-drop (at + blank) text, room.0, room.1))
