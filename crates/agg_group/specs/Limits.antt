-- How much a cube may have.
use Rattle.std.specs.Prelude.{ℕ}

-- the dimensions of a cube
abbrev pub most_dimensions : ℕ
most_dimensions = 40

-- its cuboids
abbrev pub most_cuboids : ℕ
most_cuboids = 4_096
