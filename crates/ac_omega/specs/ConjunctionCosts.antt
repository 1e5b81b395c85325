-- What a conjunction costs a strategy: its rows, and for the economical one also the pairs of a lower and an upper row that it forms there.
use Rattle.std.specs.Prelude.{◌≡◌, ℕ, ◌+◌, ◌*◌, ◌-◌, ◌^◌, ◌<◌, ◌≤◌, min, List, [], ◌∷◌, length, Option, Some, None, Result, Ok, Err}
use Rattle.ac_forms.specs.declared.row.Row.{Row}
use Rattle.ac_omega_steps.specs.Bounds.{lows, highs}
use Rattle.ac_omega.specs.declared.ranking.Rule.TheVariants as rule
use Rattle.ac_omega.specs.ColumnChoice.{or_else, by_equality, by_rule}
use Rattle.ac_omega_certify.specs.declared.strategy.Strategy.{Strategy}
use Rattle.ac_omega_certify.specs.declared.strategy.Strategy.TheVariants.{Full, Economical}

-- how many pairs of a lower and an upper row a column has
abbrev pub pairs_at : List Row → ℕ → ℕ
pairs_at rows z = length (lows z rows) * length (highs z rows)

-- how many all these columns have
abbrev pub pairs_of : List Row → List ℕ → ℕ
pairs_of rows [] = 0
pairs_of rows (z ∷ zs) = pairs_at rows z + pairs_of rows zs

-- the next column, where a rule gives it by which no pair is formed
abbrev pub by_no_pair : List ℕ → List Row → Option ℕ
by_no_pair vars rows = or_else (by_equality vars rows) (or_else (by_rule rule.Divided vars rows) (by_rule rule.OneSided vars rows))

-- else the pairs of the column that has a size 1 in each of them; without such a column those of all, since their splinters are counted
abbrev pub pairs_by : Option ℕ → List ℕ → List Row → ℕ
pairs_by (Some z) vars rows = pairs_at rows z
pairs_by None vars rows = pairs_of rows vars

abbrev pub pairs_unless : Option ℕ → Option ℕ → List ℕ → List Row → ℕ
pairs_unless (Some y) o vars rows = 0
pairs_unless None o vars rows = pairs_by o vars rows

-- the pairs that are formed for the next of these columns, each counted once
abbrev pub pairs_formed : List ℕ → List Row → ℕ
pairs_formed vars rows = pairs_unless (by_no_pair vars rows) (by_rule rule.UnitPairs vars rows) vars rows

unfoldable pub cost_of : Strategy → List ℕ → List Row → ℕ
cost_of Full vars rows = length rows
cost_of Economical vars rows = length rows + pairs_formed vars rows

-- the running cost, where it is within the budget; else the first one above it, or 2^64 - 1 where that is less
abbrev pub Charges : Result ℕ ℕ → ℕ → ℕ → Type 0
Charges (Ok spent) cost budget = (spent ≡ cost) × (cost ≤ budget)
Charges (Err over) cost budget = (budget < cost) × (over ≡ min cost (2 ^ 64 - 1))
