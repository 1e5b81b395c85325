-- The points of one conjunction outside another, in pieces.
use Rattle.std.specs.Prelude.{ℕ, List, [], ◌∷◌, ◌++◌, map}
use Rattle.ac_forms.specs.Negation.{negation, NegationFits}
use Rattle.ac_forms.specs.declared.conj.Conj.{Conj}
use Rattle.ac_forms.specs.declared.row.Row.{Row}
use Rattle.ac_cert.specs.Rules.{with_row}

-- the rows of both, over the columns of the second, whose first columns are those of the first
abbrev pub further : Conj → Conj → Conj
further c d = record { columns = d.columns; rows = c.rows ++ d.rows }

-- for each row the points that meet all rows before it and not the row
abbrev pub outside : Conj → List Row → List Conj
outside c [] = []
outside c (r ∷ rs) = map (further c) (negation c.columns r) ++ outside (with_row c r) rs

-- the negation of each row is made in `i128`
abbrev pub NegationsFit : List Row → Type 0
NegationsFit [] = Unit {0}
NegationsFit (r ∷ rs) = NegationFits r × NegationsFit rs
