-- A branch on a row: the path behind the row, where it holds, and the paths beside it, where it doesn't.
use Rattle.std.specs.Prelude.{ℤ, ◌-ℤ◌, pos, neg_ℤ}
use Rattle.ac_forms.specs.Affine.{Affine, shifted}
use Rattle.ac_forms.specs.Negation.{opposite, above, below, with_column}
use Rattle.ac_forms.specs.declared.conj.Conj.{Conj}
use Rattle.ac_forms.specs.declared.row.Row.{Row}
use Rattle.ac_forms.specs.declared.row.Row.TheVariants.{Eq, Div, Ge}
use Rattle.ac_cert.specs.Rules.{with_row, with_column_row}

-- a further column q, the quotient of the form rounded down, with `form - m q >= 0` and `m q + m - 1 - form >= 0`
abbrev pub with_floor : Conj → ℤ → Affine → Conj
with_floor c m f = with_row (with_column_row c (Ge (with_column c.columns (neg_ℤ m) f))) (Ge (with_column c.columns m (shifted (opposite f) (m -ℤ pos 1))))

-- the path behind a row that holds: the rows that show it, and the row
abbrev pub behind : Conj → Row → Conj
behind c (Eq f) = with_row (with_row (with_row c (Ge f)) (Ge (opposite f))) (Eq f)
behind c (Div m f) = with_row (with_row (with_row (with_row (with_floor c m f) (Ge (with_column c.columns m (opposite f)))) (Eq (with_column c.columns (neg_ℤ m) f))) (Div m (with_column c.columns (neg_ℤ m) f))) (Div m f)
behind c (Ge f) = with_row c (Ge f)

-- the path where the form is at most -1
abbrev pub under : Conj → Affine → Conj
under c f = with_row c (Ge (below f))

-- the path where the form of an equality is at least 1
abbrev pub over_zero : Conj → Affine → Conj
over_zero c f = with_row (with_row c (Ge f)) (Ge (above f))

-- the path where the form leaves a remainder from 1 to m - 1
abbrev pub with_rest : Conj → ℤ → Affine → Conj
with_rest c m f = with_row (with_floor c m f) (Ge (with_column c.columns (neg_ℤ m) (above f)))
