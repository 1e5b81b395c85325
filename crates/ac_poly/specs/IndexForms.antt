-- Conditions over the parameters alone, as contexts have them.
use Rattle.std.specs.Prelude.{List, [], ◌∷◌}
use Rattle.ac_forms.specs.Affine.{Affine}
use Rattle.ac_forms.specs.declared.row.Row.{Row}
use Rattle.ac_forms.specs.declared.row.Row.TheVariants.{Ge, Eq}
use Rattle.ac_syntax.specs.declared.tree.Rel.{Rel}
use Rattle.ac_syntax.specs.declared.tree.Rel.TheVariants.{NonNegative, Zero, Divides}
use Rattle.ac_syntax.specs.declared.tree.Comparison.{Comparison}
pub use Rattle.ac_poly_quotients.specs.LoweredForms.{lowered}

-- the row that says of a form what a comparison does; a test of a divisor stands as an equality, and no context that is plain has one
abbrev pub row_by : Rel → Affine → Row
row_by NonNegative f = Ge f
row_by Zero f = Eq f
row_by (Divides m) f = Eq f

-- the rows of a condition without quotients
abbrev pub rows_of : List Affine → List Comparison → List Row
rows_of its [] = []
rows_of its (c ∷ cs) = row_by c.rel (lowered its c.form) ∷ rows_of its cs
