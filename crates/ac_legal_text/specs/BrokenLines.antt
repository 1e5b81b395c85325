-- The line of two instances between which an order is broken.
use Rattle.std.specs.Prelude.{ℕ, ℤ, List, [], ◌∷◌, ◌++◌, codes, decimal}
use Rattle.std.specs.Fmt.{signed_decimal}
use Rattle.std.specs.List.{join_by}

-- numbers in parentheses, joined by commas
abbrev pub tuple_text : List ℤ → List ℕ
tuple_text xs = codes "(" ++ join_by signed_decimal (codes ",") xs ++ codes ")"

-- an instance of an assignment
abbrev pub instance_text : ℕ → List ℤ → List ℕ
instance_text k xs = codes "S" ++ decimal k ++ tuple_text xs

-- the first instance and the second
abbrev pub pair_text : ℕ → List ℤ → ℕ → List ℤ → List ℕ
pair_text i xs j ys = instance_text i xs ++ codes " before " ++ instance_text j ys

-- `broken: S0(x..) before S1(y..) at (v..)`
abbrev pub broken_line : List ℤ → ℕ → List ℤ → ℕ → List ℤ → List ℕ
broken_line at i xs j ys = (codes "broken: " ++ pair_text i xs j ys ++ codes " at " ++ tuple_text at) ++ 10 ∷ []
