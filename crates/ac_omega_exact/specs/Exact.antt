-- Pairs of bounds of a column whose dark shadow loses no point, and the splinters that the other pairs need (W. Pugh, The Omega test, 1991).
use Rattle.std.specs.Prelude.{◌≡◌, ◌⊎◌, ℕ, zero, suc, true, ℤ, pos, negsuc, ◌≤ℤ◌, List, [], ◌∷◌, set, slice_get, Some}
use Rattle.ac_forms.specs.Affine.{Affine, coef, combined, value_at}
use Rattle.ac_forms.specs.Rows.{Meets}
use Rattle.ac_forms.specs.declared.row.Row.{Row}
use Rattle.ac_forms.specs.declared.row.Row.TheVariants.{Ge}
use Rattle.ac_omega_steps.specs.declared.column.Bound.{Bound}
use Rattle.ac_omega_steps.specs.declared.choose.Choice.TheVariants.{Splinter}
use Rattle.ac_omega_steps.specs.Bounds.{is_low, low_bound, highs, rows_without, last_splinter}
use Rattle.ac_omega_steps.specs.Choices.{left_by, shadow_form}

-- the real shadow of a lower row b z + e >= 0 and an upper row -a z + f >= 0: a e + b f
abbrev pub real_form : Bound → Bound → Affine
real_form low high = combined high.size low.rest low.size high.rest

-- beside these rows the dark shadow of the pair loses no point of the real one
abbrev pub LosesNothing : List Row → Bound → Bound → Type 0
LosesNothing rows low high = (p : List ℤ) → Meets rows p → pos 0 ≤ℤ value_at (real_form low high) p → pos 0 ≤ℤ value_at (shadow_form low high) p

-- of each lower row a number, in place of the greatest size of an upper row: its splinters go up to the last one that this size needs
abbrev pub Needs : Type 0
Needs = Affine → ℤ

-- the number is at least the size of each of the upper bounds whose pair with the lower one may lose a point
abbrev pub SufficesFor : List Row → Bound → ℤ → List Bound → Type 0
SufficesFor rows low a [] = Unit {0}
SufficesFor rows low a (h ∷ hs) = (LosesNothing rows low h ⊎ (h.size ≤ℤ a)) × SufficesFor rows low a hs

-- so is that of each lower row, and it is at least 1
abbrev pub Suffices : Needs → ℕ → List Row → Type 0
Suffices need z rows = (f : Affine) → is_low z f ≡ true → (pos 1 ≤ℤ need f) × SufficesFor (rows_without z rows) (low_bound z f) (need f) (highs z rows)

-- how many numbers there are from 0 to a last one
abbrev pub count_to : ℤ → ℕ
count_to (pos n) = suc n
count_to (negsuc n) = zero

-- the point is on a splinter of the lower row at a place, one of those up to the last that it needs
pub record IsOnNeeded (need : Needs) (z : ℕ) (rows : List Row) (p : List ℤ) : Type 0 where
  pub place : ℕ
  pub form : Affine
  pub worth : ℕ
  pub at : slice_get rows place ≡ Some (Ge form)
  pub low : is_low z form ≡ true
  pub within : pos worth ≤ℤ last_splinter (need form) (coef z form)
  pub meets : Meets (left_by (Splinter z place (pos worth)) rows) p

-- a number for the column exists at which the rows hold
abbrev pub HasNumber : ℕ → List Row → List ℤ → Type 0
HasNumber z rows p = (v : ℤ) × Meets rows (set p z v)

-- a number for the column exists with which the point is on one of these splinters
abbrev pub HasSplinter : Needs → ℕ → List Row → List ℤ → Type 0
HasSplinter need z rows p = (v : ℤ) × IsOnNeeded need z rows (set p z v)
