use Rattle.std.proofs.Common.{◌≡◌, ◌<◌, ℕ, get_or, [], false, true, sym, arith}
use Rattle.std.proofs.lemmas.List.Sums.{position_or_len_is}
use Rattle.csv.specs.Records.{fields_of}
use Rattle.table_reader.specs.Columns.{names}
use Rattle.table_reader.proofs.header.place_in.Goals as goal
use borrow.Author.Count.{below_more}

pub returns-then-names : goal.returns-then-names
returns-then-names c =
    let here : names c.args.column.now (get_or (fields_of c.args.header.now) c.loop-i.i []) ≡ true = cc in
    sym (position_or_len_is (names c.args.column.now) (fields_of c.args.header.now) c.loop-i.i [] (omega arith) c.loop-i.invariant (λ _. here))

pub loop-i-preserved : goal.loop-i-preserved
loop-i-preserved c =
    let here : names c.args.column.now (get_or (fields_of c.args.header.now) c.loop-i.i []) ≡ false = cc in
    below_more (λ k. names c.args.column.now (get_or (fields_of c.args.header.now) k []) ≡ false) c.loop-i.i c.loop-i.invariant here

pub returns : goal.returns
returns c =
    let all : c.loop-i.i ≡ c.len.result = omega arith in
    let before : (k : ℕ) → k < c.len.result → names c.args.column.now (get_or (fields_of c.args.header.now) k []) ≡ false = λ k small. c.loop-i.invariant k (omega arith) in
    sym (position_or_len_is (names c.args.column.now) (fields_of c.args.header.now) c.len.result [] (omega arith) before (λ less. absurd (omega arith)))
