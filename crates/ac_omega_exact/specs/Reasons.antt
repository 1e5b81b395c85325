-- Why a pair of bounds is exact: what the search for rows that imply its dark shadow finds.
use Rattle.std.specs.Prelude.{◌≡◌, ℕ, true, false, List, Some, slice_get}
use Rattle.ac_forms.specs.Affine.{Affine, added}
use Rattle.ac_forms.specs.NormalRows.{normal_ge}
use Rattle.ac_forms.specs.declared.normal.NormalRow.{NormalRow}
use Rattle.ac_forms.specs.declared.normal.NormalRow.TheVariants.{Kept}
use Rattle.ac_forms.specs.declared.row.Row.{Row}
use Rattle.ac_forms.specs.declared.row.Row.TheVariants.{Ge}
use Rattle.ac_omega_steps.specs.declared.column.Bound.{Bound}
use Rattle.ac_forms.specs.RowColumns.{has_column}
use Rattle.ac_omega_steps.specs.Choices.{shadow_form}
use Rattle.ac_omega_exact.specs.Exact.{real_form}
use Rattle.ac_omega_exact.specs.ExactnessTests.{is_same_left, is_at_most}
use Rattle.ac_omega_exact.specs.declared.pairs.Reason.{Reason}
use Rattle.ac_omega_exact.specs.declared.pairs.Reason.TheVariants as reason

-- the row at a place is this inequality, which does not have the column
pub record IsFreeAt (z : ℕ) (rows : List Row) (place : ℕ) (form : Affine) : Type 0 where
  pub at : slice_get rows place ≡ Some (Ge form)
  pub free : has_column z (Ge form) ≡ false

-- the row at a place implies the form
pub record ImpliesAt (z : ℕ) (rows : List Row) (place : ℕ) (g : Affine) : Type 0 where
  pub form : Affine
  pub stands : IsFreeAt z rows place form
  pub implies : is_at_most form g ≡ true

-- the sum of the form and the row at a place implies another
pub record ImpliesWith (z : ℕ) (f : Affine) (rows : List Row) (place : ℕ) (g : Affine) : Type 0 where
  pub form : Affine
  pub stands : IsFreeAt z rows place form
  pub implies : is_at_most (added f form) g ≡ true

-- the sum of the row at a place and one of others implies the form
pub record ImplyAt (z : ℕ) (rows others : List Row) (first second : ℕ) (g : Affine) : Type 0 where
  pub form : Affine
  pub stands : IsFreeAt z rows first form
  pub rest : ImpliesWith z form others second g

-- one row without the column, or the sum of two, implies what is left of an inequality
abbrev pub IsImpliedBy : ℕ → List Row → NormalRow → Reason → Type 0
IsImpliedBy z rows left reason.SameNormalForm = ⊥
IsImpliedBy z rows left (reason.Row i) = (g : Affine) × (left ≡ Kept (Ge g)) × ImpliesAt z rows i g
IsImpliedBy z rows left (reason.Rows i j) = (g : Affine) × (left ≡ Kept (Ge g)) × ImplyAt z rows rows i j g

-- the dark shadow of which this is left loses no point of the real one of which that is left, for this reason; rows are looked for where both aren't the same
abbrev pub IsLeftFor : ℕ → List Row → NormalRow → NormalRow → Reason → Type 0
IsLeftFor z rows dark real reason.SameNormalForm = is_same_left dark real ≡ true
IsLeftFor z rows dark real (reason.Row i) = (is_same_left dark real ≡ false) × IsImpliedBy z rows dark (reason.Row i)
IsLeftFor z rows dark real (reason.Rows i j) = (is_same_left dark real ≡ false) × IsImpliedBy z rows dark (reason.Rows i j)

-- the pair is exact for this reason
abbrev pub IsReason : ℕ → List Row → Bound → Bound → Reason → Type 0
IsReason z rows low high = IsLeftFor z rows (normal_ge (shadow_form low high)) (normal_ge (real_form low high))
