use Rattle.std.proofs.Common.{◌∙◌, inr, refl, sym}
use Rattle.csv.specs.Reading.{Reached, strip_bom}
use Rattle.table_reader.proofs.records.reader_of.Goals as goal

pub returns : goal.returns
unfolding Reached
returns c =
    let fr = c.from_reader.ensures in
    let h = c.has_headers.ensures in
    let f = c.flexible.ensures in
    record {
      untrimmed = rw (f, h) at fr.trim ∙ c.new.ensures.trim;
      ready = inr (inr (rw (f, h) at fr.has_headers, fr.headers));
      config = rw (f, h) at fr.config ∙ c.new.ensures.config;
      left = strip_bom c.args.bytes.now;
      source = fr.source;
      reached = (sym fr.state, refl);
    }
