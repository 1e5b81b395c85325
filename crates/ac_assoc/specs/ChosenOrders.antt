-- The numbers of the chosen orders.
use Rattle.std.specs.Prelude.{ℕ, ◌==◌, ◌&&◌, ◌*◌, ◌/◌, ◌%◌, List, [], ◌∷◌, Bool, true, false, length, min, nat_le, reverse, if◌then◌else◌}
use Rattle.ac_assoc_law.specs.ArrangedPairs.{factorial}
use Rattle.ac_assoc.specs.declared.types.Chain.{Chain}
use Rattle.ac_instance.specs.declared.halt.Side.{Side}
use Rattle.ac_instance.specs.declared.halt.Side.TheVariants.{Left, Right}
use Rattle.ac_assoc.specs.declared.types.Chosen.{Chosen}

-- that of the chain at a node, 0 where none is chosen
abbrev pub number_at : List Chosen → ℕ → ℕ → ℕ
number_at [] stmt node = 0
number_at (c ∷ cs) stmt node = if (c.stmt == stmt) && (c.node == node) then c.number else number_at cs stmt node

abbrev pub is_right : Side → Bool
is_right Left = false
is_right Right = true

-- in how many orders the operands of a chain are tried: those of a right chain of three to six
abbrev pub ways : Chain → ℕ
ways c = if is_right c.side && (nat_le 3 (length c.operands) && nat_le (length c.operands) 6) then factorial (length c.operands) else 1

unfoldable pub product : List Chain → ℕ
product [] = 1
product (c ∷ cs) = ways c * product cs

-- the number of all arrangements, or 1,025 where that is greater
abbrev pub arrangement_count : List Chain → ℕ
arrangement_count chains = min (product chains) 1025

-- a number in mixed radix, the first chain fastest
abbrev pub read_from : List Chain → ℕ → List Chosen
read_from [] rest = []
read_from (c ∷ cs) rest = if is_right c.side then record { stmt = c.stmt; node = c.node; number = rest % ways c } ∷ read_from cs (rest / ways c) else read_from cs rest

-- the last chain fastest
abbrev pub chosen : List Chain → ℕ → List Chosen
chosen chains number = read_from (reverse chains) number
