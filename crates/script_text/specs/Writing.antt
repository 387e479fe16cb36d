-- How far a writer of lines has come.
use Rattle.std.specs.Prelude.{◌≡◌, ℕ, List, Some, false, true}
use Rattle.std.specs.declared.alloc.Global.{Global}
use Rattle.std.specs.declared.vec.Vec.{Vec}
use Rattle.csv.specs.Writing.{default_writer, fields_written, has_written, text_written, writer_setup}
use Rattle.csv.specs.declared.writer.Writer.{Writer}

-- the writer has written this text, by the default settings with lines of any number of fields, and stands before a line
pub record HasWritten (text : List ℕ) (writer : Writer (Vec ℕ Global)) : Type 0 where
  pub setup : writer_setup writer ≡ record default_writer { flexible = true }
  pub ended : fields_written writer ≡ 0
  pub clean : has_written writer ≡ false
  pub written : text_written (λ v. Some v.items) writer ≡ Some text
