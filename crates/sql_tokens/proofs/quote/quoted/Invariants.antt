use Rattle.std.proofs.Common.{◌≡◌, ◌+◌, false, drop, length}
use Rattle.sql_tokens.specs.Quotes.{doubled, text_behind}
use Rattle.sql_tokens.specs.Said.{joined, pending}
use Rattle.sql_tokens.proofs.quote.quoted.Given as goal

abbrev pub invariant-loop-i : goal.invariant-loop-i
invariant-loop-i l =
    record {
      said : joined l.text.items (text_behind l.after_quote (drop l.i l.rest)) ≡ text_behind false l.rest;
      long : l.i ≡ length (doubled l.text.items) + pending l.after_quote;
    }
