-- What a bare key of ORDER BY is.
use Rattle.std.proofs.Common.{◌≡◌, List, Option, None, sym, ap, ◌∙◌}
use Rattle.std.specs.List.{find}
use Rattle.sql_reader.specs.declared.tree.ColRef.{ColRef}
use Rattle.sql_reader.specs.declared.tree.Item.{Item}
use Rattle.sql_reader.specs.declared.tree.Query.{Query}
use Rattle.sql_reader.specs.declared.tree.SqlTerm.{SqlTerm}
use Rattle.sql_reader.specs.declared.tree.SqlTerm.TheVariants.{Col}
use Rattle.query_names.specs.Parts.{is_called, term_or, column_key, key_term}

pub key_of_bare : (q : Query) (r : ColRef) (t s : SqlTerm) (items : List Item) (o : Option Item) → t ≡ Col r → r.table ≡ None → o ≡ find (λ item. is_called r.column.text item.alias) items
    → items ≡ q.items → s ≡ term_or t o → s ≡ key_term q t
key_of_bare q r t s items o et none eo ei es =
    es ∙ ap (λ z. term_or z o) et ∙ ap (term_or (Col r)) (eo ∙ ap (find (λ item. is_called r.column.text item.alias)) ei) ∙ sym (ap (column_key q r) none) ∙ ap (key_term q) (sym et)
