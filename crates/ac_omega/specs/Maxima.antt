-- The greatest absolute values that a walk meets.
use Rattle.std.specs.Prelude.{ℕ, ℤ, max, unsigned_abs, List, [], ◌∷◌}
use Rattle.ac_forms.specs.Affine.{Affine}
use Rattle.ac_forms.specs.declared.row.Row.{Row}
use Rattle.ac_forms.specs.declared.row.Row.TheVariants.{Eq, Div, Ge}
use Rattle.ac_omega_steps.specs.declared.choose.Choice.{Choice}
use Rattle.ac_omega_steps.specs.declared.choose.Choice.TheVariants as choice
-- `factor` of coefficients, moduli and the moduli of residues; `number` of coefficients, constants and moduli
pub use Rattle.ac_omega.specs.declared.extent.Maxima.{Maxima}

-- before anything is met
abbrev pub nothing_met : Maxima
nothing_met = record { factor = 0; number = 0 }

-- the greatest of a number and the absolute values of a list
abbrev pub greatest_abs : ℕ → List ℤ → ℕ
greatest_abs n [] = n
greatest_abs n (c ∷ cs) = greatest_abs (max n (unsigned_abs c)) cs

abbrev pub with_form : Affine → Maxima → Maxima
with_form f s = record { factor = greatest_abs s.factor f.coefs; number = greatest_abs (max s.number (unsigned_abs f.konst)) f.coefs }

abbrev pub with_modulus : ℤ → Maxima → Maxima
with_modulus m s = record { factor = max s.factor (unsigned_abs m); number = max s.number (unsigned_abs m) }

abbrev pub with_row : Row → Maxima → Maxima
with_row (Eq f) s = with_form f s
with_row (Div m f) s = with_form f (with_modulus m s)
with_row (Ge f) s = with_form f s

abbrev pub with_rows : List Row → Maxima → Maxima
with_rows [] s = s
with_rows (r ∷ rs) s = with_rows rs (with_row r s)

-- of a choice only the modulus of a residue counts
abbrev pub with_choice : Choice → Maxima → Maxima
with_choice (choice.Residue z m r) s = record { factor = max s.factor (unsigned_abs m); number = s.number }
with_choice (choice.Drop z) s = s
with_choice (choice.Equal z i) s = s
with_choice (choice.Shadow z) s = s
with_choice (choice.Splinter z i k) s = s
