-- The rules: the rows that each step and branch makes, or none where it is no instance of its rule or a number leaves `i128`.
use Rattle.std.specs.Prelude.{ℕ, ◌+◌, Bool, true, false, ◌&&◌, ℤ, pos, negsuc, ◌+ℤ◌, ◌-ℤ◌, ◌*ℤ◌, neg_ℤ, List, [], ◌∷◌, ◌++◌, length, Option, Some, None, option_and_then, option_map, cond, int_le, nat_le, nat_eq, slice_get, take, unsigned_abs}
use Rattle.std.specs.Int.{int_div_euclid}
use Rattle.std.specs.Ordering.{int_eq}
use Rattle.ac_base.specs.Dot.{floored}
use Rattle.ac_base.specs.Multiple.{divides}
use Rattle.ac_forms.specs.Affine.{Affine, scaled, shifted}
use Rattle.ac_forms.specs.Fits.{fits}
use Rattle.ac_forms.specs.Negation.{opposite, with_column}
use Rattle.ac_forms.specs.RangeTests.{form_fits}
use Rattle.ac_forms.specs.declared.conj.Conj.{Conj}
use Rattle.ac_forms.specs.declared.row.Row.{Row}
use Rattle.ac_forms.specs.declared.row.Row.TheVariants.{Eq, Div, Ge}
use Rattle.ac_omega_steps.specs.Combination.{combination}
use Rattle.ac_cert.specs.declared.types.Rule.{Rule}
use Rattle.ac_cert.specs.declared.types.Rule.TheVariants as rule
use Rattle.ac_cert.specs.declared.types.Step.{Step}
use Rattle.ac_cert.specs.declared.types.Step.TheVariants.{Add, Cut, DivScale, DivAdd, DivMod, DivEq, Quot, Floor, EqCut}

-- a number less the form, where the numbers stay in `i128`
unfoldable pub rest_of : ℤ → Affine → Option Affine
rest_of k f = cond (form_fits (opposite f) && fits ((opposite f).konst +ℤ k)) (Some (shifted (opposite f) k)) None

-- k times the form, where the numbers stay in `i128`
unfoldable pub multiple_of : ℤ → Affine → Option Affine
multiple_of k f = cond (form_fits (scaled k f)) (Some (scaled k f)) None

-- a further row
abbrev pub with_row : Conj → Row → Conj
with_row c r = record { columns = c.columns; rows = c.rows ++ r ∷ [] }

-- the first rows, over the first columns
abbrev pub first_of : ℕ → ℕ → Conj → Conj
first_of columns count c = record { columns = columns; rows = take count c.rows }

-- the form of a row that may stand in a sum with this factor
abbrev pub term_form : ℤ → Option Row → Option Affine
term_form l None = None
term_form l (Some (Eq f)) = Some f
term_form l (Some (Div m f)) = None
term_form l (Some (Ge f)) = cond (int_le (pos 0) l) (Some f) None

-- the sum and multiples of rows, from the first term on
abbrev pub sum_from : Affine → List (ℕ × ℤ) → List Row → Option Affine
sum_from sum [] rows = Some sum
sum_from sum (t ∷ ts) rows = option_and_then (λ f. option_and_then (λ s. sum_from s ts rows) (combination (pos 1) sum t.1 f)) (term_form t.1 (slice_get rows t.0))

abbrev pub is_equality : Option Row → Bool
is_equality (Some (Eq f)) = true
is_equality _ = false

-- all terms are of `Eq` rows
abbrev pub are_equalities : List (ℕ × ℤ) → List Row → Bool
are_equalities [] rows = true
are_equalities (t ∷ ts) rows = is_equality (slice_get rows t.0) && are_equalities ts rows

abbrev pub zero_form : Affine
zero_form = record { konst = pos 0; coefs = [] }

-- `Eq` if all are `Eq`, else `Ge`
unfoldable pub sum_row : List (ℕ × ℤ) → List Row → Option Row
sum_row ts rows = cond (nat_eq (length ts) 0) None (option_map (λ f. cond (are_equalities ts rows) (Eq f) (Ge f)) (sum_from zero_form ts rows))

abbrev pub divides_each : ℤ → List ℤ → Bool
divides_each g [] = true
divides_each g (c ∷ cs) = divides (unsigned_abs g) c && divides_each g cs

-- the form divided, the constant and each coefficient rounded down
abbrev pub quotient_form : ℤ → Affine → Affine
quotient_form g f = record { konst = int_div_euclid f.konst g; coefs = floored g f.coefs }

abbrev pub cut_row : ℤ → Option Row → Option Row
cut_row g (Some (Ge f)) = cond (int_le (pos 1) g && divides_each g f.coefs) (Some (Ge (quotient_form g f))) None
cut_row g _ = None

-- the modulus times the absolute value, where both are numbers of `i128`
unfoldable pub greater_modulus : ℤ → ℤ → Option ℤ
greater_modulus m k = cond (fits (pos (unsigned_abs k)) && fits (m *ℤ pos (unsigned_abs k))) (Some (m *ℤ pos (unsigned_abs k))) None

abbrev pub div_scale_row : ℤ → Option Row → Option Row
div_scale_row k (Some (Div m f)) = cond (int_eq k (pos 0)) None (option_and_then (λ n. option_map (λ g. Div n g) (multiple_of k f)) (greater_modulus m k))
div_scale_row k _ = None

abbrev pub div_add_row : ℤ → Option Row → ℤ → Option Row → Option Row
div_add_row k (Some (Div m f)) l (Some (Div n g)) = cond (int_eq m n) (option_map (λ h. Div m h) (combination k f l g)) None
div_add_row k _ l _ = None

-- the product divides each number of the form
abbrev pub divides_form : ℤ → Affine → Bool
divides_form g f = divides (unsigned_abs g) f.konst && divides_each g f.coefs

unfoldable pub div_mod_stands : ℕ → ℤ → ℤ → ℤ → Affine → Bool
div_mod_stands columns g n m f = int_le (pos 1) g && (int_le (pos 1) n && (nat_le (length f.coefs) columns && (fits (g *ℤ n) && divides (unsigned_abs (g *ℤ n)) m)))

-- n divides the form, where the product of g and n divides each number of the difference
abbrev pub reduced_row : ℤ → ℤ → Affine → Option Affine → Option Row
reduced_row g n f d = option_and_then (λ d. cond (divides_form (g *ℤ n) d) (Some (Div n f)) None) d

abbrev pub div_mod_row : ℕ → ℤ → ℤ → Affine → Option Row → Option Row
div_mod_row columns g n f (Some (Div m e)) = cond (div_mod_stands columns g n m f) (reduced_row g n f (combination (pos 1) e (neg_ℤ g) f)) None
div_mod_row columns g n f _ = None

abbrev pub div_eq_row : ℤ → Option Row → Option Row
div_eq_row n (Some (Eq f)) = cond (int_le (pos 1) n) (Some (Div n f)) None
div_eq_row n _ = None

-- the form less m times a further column, where m is at least 1 and the form is over the columns
unfoldable pub less_column : ℕ → ℤ → Affine → Option Affine
less_column columns m f = cond (int_le (pos 1) m && nat_le (length f.coefs) columns) (Some (with_column columns (neg_ℤ m) f)) None

-- a further column and a row
abbrev pub with_column_row : Conj → Row → Conj
with_column_row c r = record { columns = c.columns + 1; rows = c.rows ++ r ∷ [] }

-- a further column q with `form - modulus q = 0`
abbrev pub quotient : Conj → Option Row → Option Conj
quotient c (Some (Div m f)) = option_map (λ g. with_column_row c (Eq g)) (less_column c.columns m f)
quotient c _ = None

-- a further column q with `form - m q >= 0`, then `m q + m - 1 - form >= 0`
unfoldable pub floor_of : Conj → ℤ → Affine → Option Conj
floor_of c m f = option_and_then (λ low. option_map (λ high. with_row (with_column_row c (Ge low)) (Ge (with_column c.columns m high))) (rest_of (m -ℤ pos 1) f)) (less_column c.columns m f)

abbrev pub all_zero : List ℤ → Bool
all_zero [] = true
all_zero (c ∷ cs) = int_eq c (pos 0) && all_zero cs

-- the form is 0 at each point
abbrev pub is_zero : Affine → Bool
is_zero f = all_zero f.coefs && int_eq f.konst (pos 0)

-- each form is the other's opposite: their sum is 0
abbrev pub eq_cut_row : Option Row → Option Row → Option Row
eq_cut_row (Some (Ge f)) (Some (Ge g)) = option_and_then (λ s. cond (is_zero s) (Some (Eq f)) None) (combination (pos 1) f (pos 1) g)
eq_cut_row _ _ = None

-- the conjunction after a step
unfoldable pub after_step : Step → Conj → Option Conj
after_step (Add ts) c = option_map (with_row c) (sum_row ts c.rows)
after_step (Cut i g) c = option_map (with_row c) (cut_row g (slice_get c.rows i))
after_step (DivScale i k) c = option_map (with_row c) (div_scale_row k (slice_get c.rows i))
after_step (DivAdd i k j l) c = option_map (with_row c) (div_add_row k (slice_get c.rows i) l (slice_get c.rows j))
after_step (DivMod i g n f) c = option_map (with_row c) (div_mod_row c.columns g n f (slice_get c.rows i))
after_step (DivEq i n) c = option_map (with_row c) (div_eq_row n (slice_get c.rows i))
after_step (Quot i) c = quotient c (slice_get c.rows i)
after_step (Floor m f) c = floor_of c m f
after_step (EqCut i j) c = option_map (with_row c) (eq_cut_row (slice_get c.rows i) (slice_get c.rows j))

abbrev pub rule_of : Step → Rule
rule_of (Add ts) = rule.Add
rule_of (Cut i g) = rule.Cut
rule_of (DivScale i k) = rule.DivScale
rule_of (DivAdd i k j l) = rule.DivAdd
rule_of (DivMod i g n f) = rule.DivMod
rule_of (DivEq i n) = rule.DivEq
rule_of (Quot i) = rule.Quot
rule_of (Floor m f) = rule.Floor
rule_of (EqCut i j) = rule.EqCut

-- the rows of a split's children: the form is at least 0, and at most -1
unfoldable pub side_rows : Affine → ℕ → Option (Row × Row)
side_rows f columns = cond (nat_le (length f.coefs) columns) (option_map (λ g. (Ge f, Ge g)) (rest_of (negsuc 0) f)) None

-- both children of a split
abbrev pub both_sides : Affine → Conj → Option (Conj × Conj)
both_sides f c = option_map (λ s. (with_row c s.0, with_row c s.1)) (side_rows f c.columns)

-- child r of a residue branch stands
unfoldable pub has_class : ℤ → Affine → ℤ → ℕ → Bool
has_class m f r columns = int_le (pos 1) m && (nat_le (length f.coefs) columns && fits (f.konst -ℤ r))

-- the row of child r: the modulus divides the form less r
abbrev pub class_row : ℤ → Affine → ℤ → Row
class_row m f r = Div m (shifted f (neg_ℤ r))

-- child r
abbrev pub class : ℤ → Affine → ℤ → Conj → Conj
class m f r c = with_row c (class_row m f r)

abbrev pub class_of : ℤ → Affine → ℤ → Conj → Option Conj
class_of m f r c = cond (has_class m f r c.columns) (Some (class m f r c)) None

-- a residue branch with so many children stands: it has as many as the modulus says, and the last of them stands
unfoldable pub is_partition : ℤ → Affine → ℕ → ℕ → Bool
is_partition m f columns count = int_eq m (pos count) && has_class m f (m -ℤ pos 1) columns
