-- What a covering is.
use Rattle.std.specs.Prelude.{List}
use Rattle.range_list.specs.declared.cover.Cover.{Cover}
use Rattle.range_list.specs.declared.cover.Cover.TheVariants.{NotOnBounds, Hole, Parts}
use Rattle.range_list.specs.Ranges.{Interval, IsOffBounds, IsOnBounds, IsFirstFreeDay, Fills}

-- how the ranges of a list cover r
abbrev pub Covers : List Interval → Interval → Cover → Type 0
Covers rs r NotOnBounds = IsOffBounds rs r
Covers rs r (Hole day) = IsOnBounds rs r × IsFirstFreeDay rs r day
Covers rs r (Parts first count) = Fills rs r first count
