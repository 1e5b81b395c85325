-- Where the numbers of the two rows of each quotient stay in `i128`.
use Rattle.std.specs.Prelude.{ℕ, ◌+◌, List, [], ◌∷◌, negsuc, neg_ℤ, pos, ◌-ℤ◌, ◌+ℤ◌}
use Rattle.ac_forms.specs.Affine.{combined, column_form, CanAddTimes, CanCombine}
use Rattle.ac_forms.specs.Fits.{Fits}
use Rattle.ac_poly_quotients.specs.declared.types.Rounded.{Rounded}

-- what a division leaves, and how far that is below the divisor
abbrev pub CanTellOne : ℕ → Rounded → Type 0
CanTellOne k q =
    CanAddTimes q.form (neg_ℤ q.div) (column_form (k + 1) k)
    × CanCombine q.div (column_form (k + 1) k) (negsuc 0) q.form
    × Fits ((combined q.div (column_form (k + 1) k) (negsuc 0) q.form).konst +ℤ (q.div -ℤ pos 1))

-- the rows of quotients from column k on
abbrev pub CanTell : ℕ → List Rounded → Type 0
CanTell k [] = Unit {0}
CanTell k (q ∷ qs) = CanTellOne k q × CanTell (k + 1) qs
