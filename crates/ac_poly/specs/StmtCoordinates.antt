-- The coordinates of the instances of one assignment: their counters, and then the values of the quotients.
use Rattle.std.specs.Prelude.{ℕ, ◌+◌, ◌++◌, List, length, ℤ}
use Rattle.ac_poly_quotients.specs.QuotientRows.{quotients_at}
use Rattle.ac_poly.specs.declared.types.StmtModel.{StmtModel}

-- how many coordinates an instance of the assignment has
abbrev pub width : StmtModel → ℕ
width stmt = length stmt.loops + length stmt.quots

-- the coordinates of the instance with these counters, at a valuation of the parameters
abbrev pub coordinates_at : StmtModel → List ℤ → List ℤ → List ℤ
coordinates_at stmt params counters = counters ++ quotients_at stmt.quots (params ++ counters)
