-- The choices for a column (W. Pugh, The Omega test, 1991), in order; none in the place of choices for which a number leaves `i128`.
pub use Rattle.ac_omega_steps.specs.Bounds.{greatest_size, last_splinter}
pub use Rattle.ac_omega_exact.specs.Exact.{count_to}
use Rattle.std.specs.Prelude.{ℕ, zero, suc, ◌*◌, ◌/◌, Bool, false, ◌&&◌, ◌||◌, cond, ℤ, pos, ◌-ℤ◌, ◌*ℤ◌, unsigned_abs, List, [], ◌∷◌, ◌++◌, Option, Some, None, option_map}
use Rattle.ac_base.specs.Gcd.{gcd}
use Rattle.ac_forms.specs.Affine.{Affine, coef}
use Rattle.ac_forms.specs.Fits.{fits}
use Rattle.ac_forms.specs.declared.row.Row.{Row}
use Rattle.ac_forms.specs.declared.row.Row.TheVariants.{Eq, Div, Ge}
use Rattle.ac_omega_steps.specs.declared.choose.Choice.{Choice}
use Rattle.ac_omega_steps.specs.declared.choose.Choice.TheVariants as choice
use Rattle.ac_omega_steps.specs.Bounds.{is_low, low_bound, highs, is_one_sided}
use Rattle.ac_forms.specs.RowColumns.{has_column}
use Rattle.ac_omega_steps.specs.ChoiceFits.{sizes_fit}
use Rattle.ac_omega_exact.specs.ExactnessTests.{economical, pairs_fit}
use Rattle.ac_omega_certify.specs.declared.strategy.Strategy.{Strategy}
use Rattle.ac_omega_certify.specs.declared.strategy.Strategy.TheVariants.{Full, Economical}

-- choices in order, where none stands for a number that leaves `i128`
abbrev pub Alternatives : Type 0
Alternatives = List (Option Choice)

-- the place of the first equality that has the column, counted from i
abbrev pub first_equality : ℕ → ℕ → List Row → Option ℕ
first_equality z i [] = None
first_equality z i (Eq f ∷ rs) = cond (has_column z (Eq f)) (Some i) (first_equality z (suc i) rs)
first_equality z i (Div m f ∷ rs) = first_equality z (suc i) rs
first_equality z i (Ge f ∷ rs) = first_equality z (suc i) rs

-- some divisibility has the column
abbrev pub has_divisibility : ℕ → List Row → Bool
has_divisibility z [] = false
has_divisibility z (Div m f ∷ rs) = has_column z (Div m f) || has_divisibility z rs
has_divisibility z (Eq f ∷ rs) = has_divisibility z rs
has_divisibility z (Ge f ∷ rs) = has_divisibility z rs

-- the least common multiple
unfoldable pub lcm : ℕ → ℕ → ℕ
lcm a b = (a / gcd a b) * b

-- the least common multiple of a number and the moduli of all divisibilities that have the column
abbrev pub common_modulus : ℕ → ℕ → List Row → ℕ
common_modulus z m [] = m
common_modulus z m (Div n f ∷ rs) = common_modulus z (cond (has_column z (Div n f)) (lcm m (unsigned_abs n)) m) rs
common_modulus z m (Eq f ∷ rs) = common_modulus z m rs
common_modulus z m (Ge f ∷ rs) = common_modulus z m rs

-- so many residues from r on
abbrev pub residues_from : ℕ → ℕ → ℤ → ℕ → Alternatives
residues_from zero z m r = []
residues_from (suc n) z m r = Some (choice.Residue z m (pos r)) ∷ residues_from n z m (suc r)

-- all residues modulo m
abbrev pub residues : ℕ → ℕ → Alternatives
residues z m = cond (fits (pos m)) (residues_from m z (pos m) 0) (None ∷ [])

-- so many splinters of row i from k on
abbrev pub splinters_from : ℕ → ℕ → ℕ → ℕ → Alternatives
splinters_from zero z i k = []
splinters_from (suc n) z i k = Some (choice.Splinter z i (pos k)) ∷ splinters_from n z i (suc k)

-- the numbers that make the last splinter stay in `i128`
abbrev pub last_splinter_fits : ℤ → ℤ → Bool
last_splinter_fits a b = fits (a *ℤ b) && (fits (a *ℤ b -ℤ a) && fits (a *ℤ b -ℤ a -ℤ b))

-- the size of an upper row for which a lower row has its splinters: the greatest one, or of those whose pair with it isn't exact; none where a number that makes it leaves `i128`
abbrev pub need_of : Strategy → ℕ → List Row → Affine → Option ℤ
need_of Full z rows f = cond (sizes_fit (highs z rows)) (Some (greatest_size (highs z rows))) None
need_of Economical z rows f = cond (pairs_fit (low_bound z f) (highs z rows)) (Some (economical z rows f)) None

-- the splinters of row i, where its coefficient is b, for an upper row of this size
abbrev pub splinters_by : Option ℤ → ℕ → ℕ → ℤ → Alternatives
splinters_by None z i b = None ∷ []
splinters_by (Some a) z i b = cond (last_splinter_fits a b) (splinters_from (count_to (last_splinter a b)) z i 0) (None ∷ [])

-- the splinters of a row among these, none where it is no lower one
abbrev pub splinters_of : Strategy → ℕ → List Row → ℕ → Row → Alternatives
splinters_of s z rows i (Ge f) = cond (is_low z f) (splinters_by (need_of s z rows f) z i (coef z f)) []
splinters_of s z rows i (Eq f) = []
splinters_of s z rows i (Div m f) = []

-- the splinters of all lower rows of the last ones among these, where the first of those has the place i
abbrev pub splinters : Strategy → ℕ → List Row → ℕ → List Row → Alternatives
splinters s z rows i [] = []
splinters s z rows i (r ∷ rs) = splinters_of s z rows i r ++ splinters s z rows (suc i) rs

-- the choices for a column that only bounds have
abbrev pub by_bounds : Strategy → ℕ → List Row → Alternatives
by_bounds s z rows = cond (is_one_sided z rows) (Some (choice.Drop z) ∷ []) (Some (choice.Shadow z) ∷ splinters s z rows 0 rows)

-- by the first equality that has the column; else by the residues of its divisibilities; else dropped where its rows bound it from one side; else its shadow, then its splinters
abbrev pub alternatives_by : Strategy → Option ℕ → ℕ → List Row → Alternatives
alternatives_by s (Some i) z rows = Some (choice.Equal z i) ∷ []
alternatives_by s None z rows = cond (has_divisibility z rows) (residues z (common_modulus z 1 rows)) (by_bounds s z rows)

unfoldable pub alternatives_for : Strategy → ℕ → List Row → Alternatives
alternatives_for s z rows = alternatives_by s (first_equality z 0 rows) z rows

-- all of them, where there is one in each place
abbrev pub all_of : Alternatives → Option (List Choice)
all_of [] = Some []
all_of (None ∷ hs) = None
all_of (Some h ∷ hs) = option_map (λ rest. h ∷ rest) (all_of hs)
