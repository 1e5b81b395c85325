-- The conditions on numbers and rows as tests, which compute.
use Rattle.std.specs.Prelude.{ℤ, pos, List, [], ◌∷◌, Bool, true, false, ◌&&◌, cond, int_le, ◌+ℤ◌, ◌*ℤ◌, Option, Some, None, unsigned_abs, ◌==◌}
use Rattle.std.specs.Ordering.{int_eq}
use Rattle.ac_base.specs.Multiple.{divides}
use Rattle.ac_forms.specs.Affine.{Affine, value_at, partial_sums, mix_numbers}
use Rattle.ac_forms.specs.Fits.{fits, all_fit}
use Rattle.ac_forms.specs.NormalRows.{absolutes, eq_numbers}
use Rattle.ac_forms.specs.Rows.{form_of}
use Rattle.ac_forms.specs.declared.row.Row.{Row}
use Rattle.ac_forms.specs.declared.row.Row.TheVariants.{Eq, Div, Ge}

-- each number of the form is one of `i128`
abbrev pub form_fits : Affine → Bool
form_fits f = all_fit f.coefs && fits f.konst

-- an evaluation stays in `i128`
abbrev pub can_evaluate : Affine → List ℤ → Bool
can_evaluate f p = all_fit (partial_sums (pos 0) f.coefs p) && fits (value_at f p)

-- a combination stays in `i128`
abbrev pub can_combine : ℤ → Affine → ℤ → Affine → Bool
can_combine k f l g = all_fit (mix_numbers k f.coefs l g.coefs) && (fits (k *ℤ f.konst) && (fits (l *ℤ g.konst) && fits (k *ℤ f.konst +ℤ l *ℤ g.konst)))

-- a row's normal form is made in `i128`
abbrev pub normal_fits : Row → Bool
normal_fits (Eq f) = all_fit (absolutes f.coefs) && all_fit (eq_numbers f)
normal_fits (Div m f) = true
normal_fits (Ge f) = all_fit (absolutes f.coefs)

-- the normal forms of all rows are
abbrev pub rows_fit : List Row → Bool
rows_fit [] = true
rows_fit (r ∷ rs) = normal_fits r && rows_fit rs
