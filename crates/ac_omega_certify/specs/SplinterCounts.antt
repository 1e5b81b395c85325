-- Numbers of splinters of the lower rows of a column that suffice: beyond them the dark shadow loses nothing (W. Pugh, The Omega test, 1991).
use Rattle.std.specs.Prelude.{◌≡◌, ◌⊎◌, ℕ, Bool, true, false, ℤ, pos, int_le, ◌-ℤ◌, ◌*ℤ◌, ◌≤ℤ◌, List, [], ◌∷◌}
use Rattle.ac_forms.specs.Affine.{Affine, coef}
use Rattle.ac_forms.specs.declared.row.Row.{Row}
use Rattle.ac_forms.specs.declared.row.Row.TheVariants.{Eq, Div, Ge}
use Rattle.ac_omega_steps.specs.declared.column.Bound.{Bound}
use Rattle.ac_omega_steps.specs.Bounds.{is_low, low_bound, highs}
use Rattle.ac_omega_exact.specs.ExactnessTests.{is_exact}

-- what the dark shadow of a lower row with coefficient b and an upper row of size a takes from their sum
abbrev pub dark_gap : ℤ → ℤ → ℤ
dark_gap a b = (a -ℤ pos 1) *ℤ (b -ℤ pos 1)

-- n times the size of the upper row makes up for what the dark shadow takes
abbrev pub is_enough : ℤ → Bound → Bound → Bool
is_enough n low high = int_le (dark_gap high.size low.size) (high.size *ℤ n)

-- for each upper bound n is enough, or the pair is exact beside the rows
abbrev pub AreShown : ℕ → List Row → ℤ → Bound → List Bound → Type 0
AreShown z rows n low [] = Unit {0}
AreShown z rows n low (h ∷ hs) = ((is_enough n low h ≡ true) ⊎ (is_exact z rows low h ≡ true)) × AreShown z rows n low hs

-- a lower row has at most as many splinters as its coefficient says, and behind them its dark shadows lose nothing
pub record SufficesOf (z : ℕ) (rows : List Row) (n : ℕ) (f : Affine) : Type 0 where
  pub within : pos n ≤ℤ coef z f
  pub shown : AreShown z rows (pos n) (low_bound z f) (highs z rows)

-- so many splinters of a row suffice, none where it is no lower one
abbrev pub SufficesAt : ℕ → List Row → Row → ℕ → Type 0
SufficesAt z rows (Ge f) n = (is_low z f ≡ true → SufficesOf z rows n f) × (is_low z f ≡ false → n ≡ 0)
SufficesAt z rows (Eq f) n = n ≡ 0
SufficesAt z rows (Div m f) n = n ≡ 0

-- of each of the last ones among these rows, in turn
abbrev pub Suffice : ℕ → List Row → List Row → List ℕ → Type 0
Suffice z rows [] [] = Unit {0}
Suffice z rows (r ∷ rs) (n ∷ ns) = SufficesAt z rows r n × Suffice z rows rs ns
Suffice z rows _ _ = ⊥
