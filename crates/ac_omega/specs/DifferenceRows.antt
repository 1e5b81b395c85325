-- Rows of differences: `s - t + c >= 0` and `s - t + c = 0`, where s and t are each a column or 0, and c is a number.
use Rattle.std.specs.Prelude.{◌≡◌, ℕ, ◌+◌, ◌*◌, ◌^◌, ◌<◌, ◌≤◌, nat_eq, cond, ℤ, pos, ◌-ℤ◌, unsigned_abs, List, [], ◌∷◌, Option, Some, None}
use Rattle.std.specs.List.{AllByRecursion}
use Rattle.ac_forms.specs.Affine.{Affine, coef}
use Rattle.ac_forms.specs.declared.row.Row.{Row}
use Rattle.ac_forms.specs.declared.row.Row.TheVariants.{Eq, Div, Ge}
use Rattle.ac_omega.specs.declared.pieces.Stop.{Stop}
use Rattle.ac_omega.specs.declared.pieces.Stop.TheVariants as stop
use Rattle.ac_omega.specs.declared.piece.Piece.{Piece}

-- 1 in the column, 0 in each other one; 0 in all of them without a column
abbrev pub one_in : Option ℕ → ℕ → ℤ
one_in None j = pos 0
one_in (Some x) j = cond (nat_eq x j) (pos 1) (pos 0)

-- the coefficients, column by column, are those of `s - t`
pub record IsDifference (coefs : ℕ → ℤ) : Type 0 where
  pub plus : Option ℕ
  pub minus : Option ℕ
  pub is : (j : ℕ) → coefs j ≡ one_in plus j -ℤ one_in minus j

-- a difference plus a number from -b to b
abbrev pub IsDifferenceWithin : ℕ → Affine → Type 0
IsDifferenceWithin b f = IsDifference (λ z. coef z f) × (unsigned_abs f.konst ≤ b)

-- an equality or an inequality of such a form
abbrev pub IsDifferenceRow : ℕ → Row → Type 0
IsDifferenceRow b (Eq f) = IsDifferenceWithin b f
IsDifferenceRow b (Div m f) = ⊥
IsDifferenceRow b (Ge f) = IsDifferenceWithin b f

abbrev pub AreDifferences : ℕ → List Row → Type 0
AreDifferences b [] = Unit {0}
AreDifferences b (r ∷ rs) = IsDifferenceRow b r × AreDifferences b rs

-- the rows of each piece are of such a form
abbrev pub AreAllDifferences : ℕ → List Piece → Type 0
AreAllDifferences b pieces = AllByRecursion (λ piece. AreDifferences b piece.rest.rows) pieces

-- what stops a question over n columns: want of memory, or a budget of less than 2 (n + 1)^3
abbrev pub StopsBelow : ℕ → ℕ → Stop → Type 0
StopsBelow n budget (stop.Overflow c) = ⊥
StopsBelow n budget (stop.Spent c k) = budget < 2 * (n + 1) ^ 3
StopsBelow n budget (stop.Memory e) = Unit {0}
