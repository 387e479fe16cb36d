use Rattle.std.proofs.Common.{◌≡◌, ◌-◌, ◌+◌, ◌∷◌, [], arith, rules, take, length, get_or}
use Rattle.command_line.proofs.FormFacts.{gives_workers, workers_digit}
use Rattle.command_line.proofs.form.is_workers.Goals as goal

pub returns-then-eq : goal.returns-then-eq
returns-then-eq c =
    let bytes = c.as_bytes.result.now in
    let same : bytes ≡ c.args.word.now = c.as_bytes.ensures.value in
    let front : take (length bytes - 1) bytes ≡ 45 ∷ 45 ∷ 119 ∷ 111 ∷ 114 ∷ 107 ∷ 101 ∷ 114 ∷ 115 ∷ 61 ∷ [] = search rules in
    let digit = c.is_one_to_eight.ensures in (
      λ yes. rw same at (gives_workers bytes (omega (arith, c.in-len1-up.len_at_least)) front (digit.0 yes).0 (digit.0 yes).1),
      λ h. let is : get_or bytes (length bytes - 1) 0 ≡ 48 + h.0 = rw same (workers_digit c.args.word.now h.0 h.1) in
          digit.1 (omega (arith, is, h.1.1), omega (arith, is, h.1.2)),
    )
