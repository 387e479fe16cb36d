-- Three months by the numbers of their days, from the first day of a leap year on.
use Rattle.range_list.specs.Ranges.{Interval}

abbrev pub january : Interval
january = record { start = 0; end = 31 }

abbrev pub february : Interval
february = record { start = 31; end = 60 }

abbrev pub march : Interval
march = record { start = 60; end = 91 }

abbrev pub quarter : Interval
quarter = record { start = 0; end = 91 }
