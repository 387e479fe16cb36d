use Rattle.std.proofs.Common.{Bor, List, ℕ, ◌≡◌, ◌∙◌, inl, Some, true, false}
use Rattle.csv.specs.Reading.{default_config, strip_bom}
use Rattle.csv.specs.Records.{fields_of}
use Rattle.csv.specs.declared.parser.State.TheVariants as st
use Rattle.csv.proofs.ReadFacts.{rows-end, rows-more}
use Rattle.table_reader.proofs.records.read_next.Goals as goal

pub returns-clause-more : goal.returns-clause-more
returns-clause-more c same bytes records has =
    let found : c.in-Ok.more ≡ true = cc same in
    let old = c.args.reader.now in
    let new = c.read_byte_record.new.self in
    let fields = fields_of c.read_byte_record.new.row in
    let r = rw found at (c.in-Ok.ensures.reads has.untrimmed has.ready) in
    let m = rows-more (λ (s : Bor (List ℕ)). Some s.now) old new fields default_config st.StartRecord (strip_bom bytes) has.left records has.config has.source has.reached r in
    record {
      untrimmed = r.3 ∙ has.untrimmed;
      ready = inl (c.in-Ok.ensures.ready has.untrimmed);
      config = r.2 ∙ has.config;
      left = m.0;
      source = m.1;
      reached = m.2;
    }

pub returns-clause-last : goal.returns-clause-last
returns-clause-last c same bytes records has =
    let found : c.in-Ok.more ≡ false = cc same in
    let old = c.args.reader.now in
    let r = rw found at (c.in-Ok.ensures.reads has.untrimmed has.ready) in
    (old.state, has.left, has.reached, rows-end (λ (s : Bor (List ℕ)). Some s.now) old c.read_byte_record.new.self (fields_of c.read_byte_record.new.row) default_config has.left has.config has.source r)
