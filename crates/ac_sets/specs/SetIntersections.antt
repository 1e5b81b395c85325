-- Quotients behind further ones: the common points of two conjunctions over the same visible columns.
use Rattle.std.specs.Prelude.{ℕ, ◌+◌, ◌-◌, List, ◌++◌, map}
use Rattle.std.specs.List.{flat_map, range_with_len}
use Rattle.ac_forms.specs.Renaming.{renamed_row}
use Rattle.ac_forms.specs.declared.conj.Conj.{Conj}

-- where so many columns go: the visible ones stay, and those behind them, the quotients, stand from another column on
abbrev pub quotients_from : ℕ → ℕ → ℕ → List ℕ
quotients_from visible at columns = range_with_len 0 visible ++ range_with_len at (columns - visible)

-- the rows of both, over the visible columns, the quotients of the first and those of the second
abbrev pub common : ℕ → Conj → Conj → Conj
common visible c d = record { columns = c.columns + (d.columns - visible); rows = c.rows ++ map (renamed_row (quotients_from visible c.columns d.columns)) d.rows }

-- each conjunction of the first list with each of the second
abbrev pub common_pieces : ℕ → List Conj → List Conj → List Conj
common_pieces visible cs ds = flat_map (λ c. map (common visible c) ds) cs
