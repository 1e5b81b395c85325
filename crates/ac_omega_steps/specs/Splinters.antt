-- Points on the splinters of a column (W. Pugh, The Omega test, 1991).
use Rattle.std.specs.Prelude.{◌≡◌, ℕ, ℤ, pos, ◌≤ℤ◌, true, List, Some, slice_get}
use Rattle.ac_forms.specs.Affine.{Affine, coef}
use Rattle.ac_forms.specs.Rows.{Meets}
use Rattle.ac_forms.specs.declared.row.Row.{Row}
use Rattle.ac_forms.specs.declared.row.Row.TheVariants.{Ge}
use Rattle.ac_omega_steps.specs.declared.choose.Choice.TheVariants.{Splinter}
use Rattle.ac_omega_steps.specs.Bounds.{is_low, highs, greatest_size, last_splinter}
use Rattle.ac_omega_steps.specs.Choices.{left_by}

-- the point is on a splinter of the lower row at a place, one of those up to its last
pub record IsOnSplinter (z : ℕ) (rows : List Row) (p : List ℤ) : Type 0 where
  pub place : ℕ
  pub form : Affine
  pub worth : ℕ
  pub at : slice_get rows place ≡ Some (Ge form)
  pub low : is_low z form ≡ true
  pub within : pos worth ≤ℤ last_splinter (greatest_size (highs z rows)) (coef z form)
  pub meets : Meets (left_by (Splinter z place (pos worth)) rows) p
