-- The record of calls, one call more.
use Rattle.std.proofs.Common.{◌≡◌, ◌+◌, ◌<◌, ◌∙◌, ℕ, List, [], ◌∷◌, ◌++◌, length, get_or, take, map, ap, sym}
use Rattle.std.specs.Prelude.{reverse}
use Rattle.std.proofs.lemmas.List.{take_more, map-append, reverse-append}
use Rattle.disk_image.specs.MemoryDisk.{call_of, latest_first}
use Rattle.disk_image.specs.declared.record.Call.{Call}

pub latest_first-push : (calls : List Call) (call : Call) → latest_first (calls ++ call ∷ []) ≡ call_of call ∷ latest_first calls
latest_first-push calls call = ap reverse (map-append call_of calls (call ∷ [])) ∙ reverse-append (map call_of calls) (call_of call ∷ [])

-- the calls up to the one at i, and that one
pub latest_first-take : (calls : List Call) (i : ℕ) (call : Call) → i < length calls → call ≡ get_or calls i call → latest_first (take (i + 1) calls) ≡ call_of call ∷ latest_first (take i calls)
latest_first-take calls i call inside is =
    ap latest_first (take_more calls i call inside)
    ∙ ap (λ (c : Call). latest_first (take i calls ++ c ∷ [])) (sym is)
    ∙ latest_first-push (take i calls) call
