-- The next column is one of the columns that are left.
use Rattle.std.proofs.Common.{◌≡◌, ℕ, ◌<◌, ◌≤◌, ◌==◌, cond, Bool, true, false, not, ◌||◌, ℤ, pos, int_eq, List, [], ◌∷◌, length, Some, arith, refl}
use Rattle.ac_forms.specs.Affine.{coef}
use Rattle.ac_forms.specs.declared.row.Row.{Row}
use Rattle.ac_forms.specs.declared.row.Row.TheVariants.{Eq, Div, Ge}
use Rattle.ac_forms.specs.RowColumns.{has_column, is_present}
use Rattle.ac_omega.specs.ColumnChoice.{next_column}
use Rattle.ac_omega.specs.Projection.{is_among}
use Rattle.ac_omega.proofs.DifferenceRows.{IsRow, Each}
use Rattle.ac_omega.proofs.DifferenceChoices.{leave}
use Rattle.ac_omega.proofs.Present.{next-present}
use Rattle.ac_omega_certify.specs.declared.strategy.Strategy.{Strategy}

-- a column outside is in no row
absent-test : (c : ℤ) → c ≡ pos 0 → not (int_eq c (pos 0)) ≡ false
absent-test c e = rw e refl

absent-form : (vars : List ℕ) (b z : ℕ) (r : Row) → IsRow vars b r → is_among z vars ≡ false → has_column z r ≡ false
absent-form vars b z (Eq f) h a = absent-test (coef z f) (h.0.within z a)
absent-form vars b z (Div m f) h a = absurd h
absent-form vars b z (Ge f) h a = absent-test (coef z f) (h.0.within z a)

absent-each : (vars : List ℕ) (b z : ℕ) (rs : List Row) → Each (IsRow vars b) rs → is_among z vars ≡ false → is_present z rs ≡ false
absent-each vars b z [] h a = refl
absent-each vars b z (r ∷ rs) h a = rw (absent-form vars b z r h.0 a) (absent-each vars b z rs h.1 a)

pub next-left : (strategy : Strategy) (vars cols : List ℕ) (b z : ℕ) (rs : List Row) → Each (IsRow vars b) rs → next_column strategy cols rs ≡ Some z → is_among z vars ≡ true
next-left strategy vars cols b z rs h e = by (is_among z vars) refl
  where
    differ : {t : Bool} → t ≡ true → t ≡ false → ⊥
    differ e f = cc

    by : (t : Bool) → is_among z vars ≡ t → is_among z vars ≡ true
    by true a = a
    by false a = absurd (differ (next-present strategy cols rs z e) (absent-each vars b z rs h a))

-- fewer columns are left
leave-short : (z : ℕ) (vars : List ℕ) → length (leave z vars) ≤ length vars
unfolding leave
leave-short z [] = omega arith
leave-short z (y ∷ ys) = by (z == y) (leave-short z ys)
  where
    by : (t : Bool) → length (leave z ys) ≤ length ys → length (cond t (leave z ys) (y ∷ leave z ys)) ≤ length (y ∷ ys)
    by true l = omega arith
    by false l = omega arith

pub leave-less : (z : ℕ) (vars : List ℕ) → is_among z vars ≡ true → length (leave z vars) < length vars
unfolding leave
leave-less z [] a = absurd cc
leave-less z (y ∷ ys) a = by (z == y) (leave-short z ys) (leave-less z ys) a
  where
    by : (t : Bool) → length (leave z ys) ≤ length ys → (is_among z ys ≡ true → length (leave z ys) < length ys) → (t || is_among z ys) ≡ true → length (cond t (leave z ys) (y ∷ leave z ys)) < length (y ∷ ys)
    by true l i a = omega arith
    by false l i a = let m = i a in omega arith
