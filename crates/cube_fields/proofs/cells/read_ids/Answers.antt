use Rattle.std.proofs.Common.{◌≡◌, ℕ, true, rules}
use Rattle.std.specs.Cmp.{nat_cmp_total}
use Rattle.std.specs.Ordering.{nat_cmp}
use Rattle.byte_frame.specs.Spelling.{rises}
use Rattle.cube_fields.specs.Orders.{before}
use Rattle.cube_fields.specs.Reading.{id_at}
use Rattle.cube_fields.proofs.Given.{gets_any, gets_list}
use Rattle.cube_fields.proofs.Rises.{sorted}
use Rattle.cube_fields.proofs.cells.read_ids.Goals as goal

pub returns-clause-few : goal.returns-clause-few
returns-clause-few c = (gets_list (λ (id : ℕ). Unit {0}) c.args.count.items (id_at c.args.size) (gets_any (id_at c.args.size)) c.args.r.now (c.in-Ok.ids.items, c.read_list.new.r) c.in-Ok.ensures).0

pub returns-clause-rising : goal.returns-clause-rising
returns-clause-rising c =
    let up : rises (before nat_cmp) c.in-Ok.ids.items ≡ true = search rules in
    sorted nat_cmp_total c.in-Ok.ids.items up
