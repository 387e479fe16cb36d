-- When two kinds of token are the same.
use Rattle.std.specs.Prelude.{ℕ, Bool, ◌==◌}
use Rattle.sql_tokens.specs.declared.kind.Kind.{Kind}
use Rattle.sql_tokens.specs.declared.kind.Kind.TheVariants as k

-- where a kind stands in the list of all kinds
abbrev pub number_of : Kind → ℕ
number_of k.Select = 0
number_of k.From = 1
number_of k.Inner = 2
number_of k.Left = 3
number_of k.Outer = 4
number_of k.Join = 5
number_of k.On = 6
number_of k.Where = 7
number_of k.Group = 8
number_of k.By = 9
number_of k.Having = 10
number_of k.Order = 11
number_of k.Limit = 12
number_of k.As = 13
number_of k.Count = 14
number_of k.Distinct = 15
number_of k.Sum = 16
number_of k.Min = 17
number_of k.Max = 18
number_of k.Avg = 19
number_of k.Or = 20
number_of k.And = 21
number_of k.Not = 22
number_of k.In = 23
number_of k.Between = 24
number_of k.Is = 25
number_of k.Null = 26
number_of k.Asc = 27
number_of k.Desc = 28
number_of k.Date = 29
number_of k.Comma = 30
number_of k.Open = 31
number_of k.Close = 32
number_of k.Star = 33
number_of k.Semicolon = 34
number_of k.Dot = 35
number_of k.Plus = 36
number_of k.Minus = 37
number_of k.Equal = 38
number_of k.NotEqual = 39
number_of k.Less = 40
number_of k.LessEqual = 41
number_of k.Greater = 42
number_of k.GreaterEqual = 43
number_of k.Name = 44
number_of k.Text = 45
number_of k.One = 46
number_of k.Whole = 47
number_of k.Number = 48

abbrev pub same : Kind → Kind → Bool
same a b = number_of a == number_of b
