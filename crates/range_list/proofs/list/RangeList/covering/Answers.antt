use Rattle.std.proofs.Common.{rules}
use Rattle.range_list.specs.declared.cover.Cover.TheVariants.{NotOnBounds, Hole, Parts}
use Rattle.range_list.proofs.Covering.{covers_exactly}
use Rattle.range_list.proofs.list.RangeList.covering.Goals as goal

pub returns-clause-off_bounds : goal.returns-clause-off_bounds
returns-clause-off_bounds c = covers_exactly c.args.self.now c.args.r.now (search rules) c.covered_by.ensures.range c.covered_by.result (search rules) NotOnBounds

pub returns-clause-hole : goal.returns-clause-hole
returns-clause-hole c = λ day. covers_exactly c.args.self.now c.args.r.now (search rules) c.covered_by.ensures.range c.covered_by.result (search rules) (Hole day)

pub returns-clause-parts : goal.returns-clause-parts
returns-clause-parts c = λ first count. covers_exactly c.args.self.now c.args.r.now (search rules) c.covered_by.ensures.range c.covered_by.result (search rules) (Parts first count)
