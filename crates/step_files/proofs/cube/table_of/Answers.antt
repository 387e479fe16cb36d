use Rattle.std.proofs.Common.{◌≡◌, ◌∙◌, ◌<◌, ℕ, ap, length, subst, sym}
use Rattle.std.specs.List.{AllByRecursion}
use Rattle.std.proofs.lemmas.List.Elements.{recursion_from_All}
use Rattle.step_files.specs.Cubes.{columns_in}
use Rattle.step_files.proofs.CubeFacts.{columns_length}
use Rattle.step_files.proofs.cube.table_of.Goals as goal

pub new-requires : goal.new-requires
new-requires c =
    let form = c.in_ok-cols.field-0 in
    let columns : c.of.result ≡ columns_in form.cols form.no_null = c.of.ensures ∙ c.in_ok-columns.ensures.columns ∙ (λ i. columns_in (c.as_slice.ensures i) (c.as_slice-2.ensures i)) in
    let long : length c.of.result ≡ length form.cols = ap length columns ∙ columns_length form.cols form.no_null c.in_ok-cols.ensures.no_null in
    subst (λ (n : ℕ). AllByRecursion (λ place. place < n) form.key) (sym long) (recursion_from_All _ form.key c.in_ok-cols.ensures.key)
