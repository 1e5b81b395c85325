-- The normal form of one row.
use Rattle.std.specs.Prelude.{ℕ, ◌==◌, ℤ, pos, negsuc, List, [], ◌∷◌, ◌++◌, map, unsigned_abs, cond, Bool, true, false, int_le, ◌≤ℤ◌}
use Rattle.std.specs.Ordering.{int_eq}
use Rattle.std.specs.Int.Signed.{lt_z}
use Rattle.std.specs.Int.{int_div_euclid, int_rem_euclid}
use Rattle.ac_base.specs.Dot.{floored, residues}
use Rattle.ac_base.specs.Gcd.{gcd_all, content}
use Rattle.ac_base.specs.Multiple.{divides}
use Rattle.ac_forms.specs.Fits.{AllFit}
use Rattle.ac_forms.specs.Affine.{Affine, scaled}
use Rattle.ac_forms.specs.Rows.{Holds}
use Rattle.ac_forms.specs.declared.row.Row.{Row}
use Rattle.ac_forms.specs.declared.row.Row.TheVariants.{Eq, Div, Ge}
use Rattle.ac_forms.specs.declared.normal.NormalRow.{NormalRow}
use Rattle.ac_forms.specs.declared.normal.NormalRow.TheVariants.{Kept, Dropped, Absurd}

-- in front of a list without zeros at its end, a 0 before the empty list being left out
abbrev pub trim_onto : ℤ → List ℤ → List ℤ
trim_onto c [] = cond (int_eq c (pos 0)) [] (c ∷ [])
trim_onto c (d ∷ ds) = c ∷ d ∷ ds

-- without the zeros at the end
abbrev pub trim : List ℤ → List ℤ
trim [] = []
trim (c ∷ cs) = trim_onto c (trim cs)

-- divided by d, the constant and each coefficient rounded down, without zeros at the end
abbrev pub divided : ℤ → Affine → Affine
divided d f = record { konst = int_div_euclid f.konst d; coefs = trim (floored d f.coefs) }

-- each number taken modulo m, into 0 to m - 1
abbrev pub reduced : ℤ → Affine → Affine
reduced m f = record { konst = int_rem_euclid f.konst m; coefs = residues m f.coefs }

-- the first coefficient that is not 0 is negative
abbrev pub leads_negative : List ℤ → Bool
leads_negative [] = false
leads_negative (c ∷ cs) = cond (int_eq c (pos 0)) (leads_negative cs) (lt_z c (pos 0))

-- the form or its opposite, so that the first coefficient that is not 0 is positive
abbrev pub signed : Affine → Affine
signed f = cond (leads_negative f.coefs) (scaled (negsuc 0) f) f

-- `form = 0`: divided by the content, which has to divide the constant, and with a positive first coefficient
abbrev pub normal_eq : Affine → NormalRow
normal_eq f =
    cond (content f.coefs == 0) (cond (int_eq f.konst (pos 0)) Dropped Absurd) (cond (divides (content f.coefs) f.konst) (Kept (Eq (signed (divided (pos (content f.coefs)) f)))) Absurd)

-- the greatest common divisor of the modulus and the coefficients modulo it
abbrev pub modular_content : ℤ → Affine → ℕ
modular_content m f = gcd_all (unsigned_abs m) (residues m f.coefs)

-- `m divides form`: numbers modulo m, then divided by what the modulus and the coefficients have in common, which has to divide the constant; a modulus of 1 says nothing
abbrev pub normal_div : ℤ → Affine → NormalRow
normal_div m f =
    cond (divides (modular_content m f) (int_rem_euclid f.konst m))
    (cond (int_eq (int_div_euclid m (pos (modular_content m f))) (pos 1)) Dropped (Kept (Div (int_div_euclid m (pos (modular_content m f))) (divided (pos (modular_content m f)) (reduced m f)))))
    Absurd

-- `form >= 0`: divided by the content, the constant rounded down
abbrev pub normal_ge : Affine → NormalRow
normal_ge f = cond (content f.coefs == 0) (cond (int_le (pos 0) f.konst) Dropped Absurd) (Kept (Ge (divided (pos (content f.coefs)) f)))

abbrev pub normal_row : Row → NormalRow
normal_row (Eq f) = normal_eq f
normal_row (Div m f) = normal_div m f
normal_row (Ge f) = normal_ge f

-- the points of what is left of a row
abbrev pub LeftHolds : NormalRow → List ℤ → Type 0
LeftHolds (Kept r) p = Holds r p
LeftHolds Dropped p = Unit {0}
LeftHolds Absurd p = ⊥

-- the absolute values of coefficients
abbrev pub absolutes : List ℤ → List ℤ
absolutes = map (λ c. pos (unsigned_abs c))

-- the numbers of the opposite, where `signed` takes it: the coefficients, then the constant
abbrev pub sign_numbers : Affine → List ℤ
sign_numbers f = cond (leads_negative f.coefs) ((scaled (negsuc 0) f).coefs ++ (scaled (negsuc 0) f).konst ∷ []) []

abbrev pub eq_numbers : Affine → List ℤ
eq_numbers f = cond (content f.coefs == 0) [] (cond (divides (content f.coefs) f.konst) (sign_numbers (divided (pos (content f.coefs)) f)) [])

-- the normal form is made in `i128`: the absolute values of the coefficients, and then the change of sign of an `Eq` row, fit; quotients and remainders always do
abbrev pub NormalFits : Row → Type 0
NormalFits (Eq f) = AllFit (absolutes f.coefs) × AllFit (eq_numbers f)
NormalFits (Div m f) = Unit {0}
NormalFits (Ge f) = AllFit (absolutes f.coefs)
