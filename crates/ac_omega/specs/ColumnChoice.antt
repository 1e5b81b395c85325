-- The next column of an elimination (W. Pugh, The Omega test, 1991): rules in order, of which the first that gives a column decides.
use Rattle.std.specs.Prelude.{ℕ, ◌+◌, ◌*◌, ◌<◌, Bool, true, false, not, ◌&&◌, ◌||◌, cond, nat_lt, ℤ, pos, ◌-ℤ◌, unsigned_abs, List, [], ◌∷◌, length, filter, Option, Some, None}
use Rattle.std.specs.Int.Signed.{lt_z}
use Rattle.std.specs.Ordering.{int_eq}
use Rattle.ac_forms.specs.Affine.{Affine, coef}
use Rattle.ac_forms.specs.Fits.{fits}
use Rattle.ac_forms.specs.declared.row.Row.{Row}
use Rattle.ac_forms.specs.declared.row.Row.TheVariants.{Eq, Div, Ge}
use Rattle.ac_omega_steps.specs.declared.column.Bound.{Bound}
use Rattle.ac_omega_steps.specs.Bounds.{is_low, lows, highs, is_one_sided}
use Rattle.ac_forms.specs.RowColumns.{has_column, is_present}
use Rattle.ac_omega_certify.specs.Alternatives.{has_divisibility, common_modulus, count_to, last_splinter, last_splinter_fits, need_of}
use Rattle.ac_omega_certify.specs.declared.strategy.Strategy.{Strategy}
use Rattle.ac_omega_certify.specs.declared.strategy.Strategy.TheVariants.{Full, Economical}
use Rattle.ac_omega.specs.declared.ranking.Rule.{Rule}
use Rattle.ac_omega.specs.declared.ranking.Rule.TheVariants as rule

-- each is one of so many columns
abbrev pub AreColumns : ℕ → List ℕ → Type 0
AreColumns n [] = Unit {0}
AreColumns n (z ∷ zs) = (z < n) × AreColumns n zs

-- rows bound the column from both sides
abbrev pub is_two_sided : ℕ → List Row → Bool
is_two_sided z rows = not (is_one_sided z rows)

abbrev pub is_unit : Bound → Bool
is_unit b = int_eq b.size (pos 1)

abbrev pub are_units : List Bound → Bool
are_units [] = true
are_units (b ∷ bs) = is_unit b && are_units bs

-- the bound's size is 1, or that of each of the others
abbrev pub is_unit_with : Bound → List Bound → Bool
is_unit_with b [] = true
is_unit_with b (c ∷ cs) = (is_unit b || is_unit c) && is_unit_with b cs

-- in each pair of a lower and an upper bound one has size 1
abbrev pub are_unit_pairs : List Bound → List Bound → Bool
are_unit_pairs [] hs = true
are_unit_pairs (l ∷ ls) hs = is_unit_with l hs && are_unit_pairs ls hs

-- by how many rows the pairs of l lower and u upper rows exceed these rows
abbrev pub excess : ℕ → ℕ → ℤ
excess l u = pos (l * u) -ℤ pos l -ℤ pos u

-- a number that does not fit is greater than any other
abbrev pub less : Option ℤ → Option ℤ → Bool
less None b = false
less (Some x) None = true
less (Some x) (Some y) = lt_z x y

-- the column z comes before y: by its key, and where the keys are equal by its place
abbrev pub precedes : (ℕ → Option ℤ) → ℕ → ℕ → Bool
precedes key z y = less (key z) (key y) || (not (less (key y) (key z)) && nat_lt z y)

-- by a first key, where those are equal by a second one, and then by its place
abbrev pub precedes_by_two : (ℕ → Option ℤ) → (ℕ → Option ℤ) → ℕ → ℕ → Bool
precedes_by_two first second z y = less (first z) (first y) || (not (less (first y) (first z)) && precedes second z y)

-- the better of a best column so far and one more, where some come before others
abbrev pub better : (ℕ → ℕ → Bool) → Option ℕ → ℕ → Option ℕ
better before None z = Some z
better before (Some y) z = Some (cond (before z y) z y)

-- the first of a best column so far and of a list
abbrev pub least_from : (ℕ → ℕ → Bool) → Option ℕ → List ℕ → Option ℕ
least_from before best [] = best
least_from before best (z ∷ zs) = least_from before (better before best z) zs

abbrev pub least_by : (ℕ → ℕ → Bool) → List ℕ → Option ℕ
least_by before zs = least_from before None zs

abbrev pub or_else : Option ℕ → Option ℕ → Option ℕ
or_else (Some z) other = Some z
or_else None other = other

-- the size of a column's coefficient
abbrev pub size_key : Affine → ℕ → Option ℤ
size_key f z = Some (pos (unsigned_abs (coef z f)))

-- the first equality that has one of the columns: of these the one with the least coefficient, by absolute values
abbrev pub by_equality : List ℕ → List Row → Option ℕ
by_equality vars [] = None
by_equality vars (Eq f ∷ rs) = or_else (least_by (precedes (size_key f)) (filter (λ z. has_column z (Eq f)) vars)) (by_equality vars rs)
by_equality vars (Div m f ∷ rs) = by_equality vars rs
by_equality vars (Ge f ∷ rs) = by_equality vars rs

-- which columns the other rules look at
abbrev pub passes : Rule → List Row → ℕ → Bool
passes rule.Divided rows z = has_divisibility z rows
passes rule.OneSided rows z = is_present z rows && is_one_sided z rows
passes rule.UnitPairs rows z = is_two_sided z rows && are_unit_pairs (lows z rows) (highs z rows)
passes rule.TwoSided rows z = is_two_sided z rows

-- and of which number they take the least: the least common multiple of the moduli of all divisibilities that have the column, where it is one of `i128`; nothing; the rows that the pairs are more than the bounds
abbrev pub key : Rule → List Row → ℕ → Option ℤ
key rule.Divided rows z = let m = pos (common_modulus z 1 rows) in cond (fits m) (Some m) None
key rule.OneSided rows z = Some (pos 0)
key rule.UnitPairs rows z = Some (excess (length (lows z rows)) (length (highs z rows)))
key rule.TwoSided rows z = Some (excess (length (lows z rows)) (length (highs z rows)))

abbrev pub by_rule : Rule → List ℕ → List Row → Option ℕ
by_rule r vars rows = least_by (precedes (key r rows)) (filter (passes r rows) vars)

-- how many splinters a lower row with coefficient b has for an upper row of this size; none where a number that makes them leaves `i128`
abbrev pub count_for : Option ℤ → ℤ → Option ℕ
count_for None b = None
count_for (Some a) b = cond (last_splinter_fits a b) (Some (count_to (last_splinter a b))) None

-- how many a row among these has: 0 where it is no lower one
abbrev pub count_of : Strategy → ℕ → List Row → Row → Option ℕ
count_of s z rows (Ge f) = cond (is_low z f) (count_for (need_of s z rows f) (coef z f)) (Some 0)
count_of s z rows (Eq f) = Some 0
count_of s z rows (Div m f) = Some 0

abbrev pub plus : Option ℕ → Option ℕ → Option ℕ
plus (Some m) (Some n) = Some (m + n)
plus (Some m) None = None
plus None n = None

-- how many the last ones among the rows have together
abbrev pub total_of : Strategy → ℕ → List Row → List Row → Option ℕ
total_of s z rows [] = Some 0
total_of s z rows (r ∷ rs) = plus (count_of s z rows r) (total_of s z rows rs)

-- a number of `i128`
abbrev pub fitting : Option ℕ → Option ℤ
fitting None = None
fitting (Some n) = cond (fits (pos n)) (Some (pos n)) None

abbrev pub excess_key : List Row → ℕ → Option ℤ
excess_key rows z = Some (excess (length (lows z rows)) (length (highs z rows)))

-- how many splinters the economical strategy tries for a column
abbrev pub splinter_key : List Row → ℕ → Option ℤ
splinter_key rows z = fitting (total_of Economical z rows rows)

-- of the columns that rows bound from both sides the one with the fewest splinters, and of those the one whose pairs exceed its bounds least
abbrev pub fewest : List ℕ → List Row → Option ℕ
fewest vars rows = least_by (precedes_by_two (splinter_key rows) (excess_key rows)) (filter (λ z. is_two_sided z rows) vars)

-- where no column has a size 1 in each of its pairs
abbrev pub by_splinters : Strategy → List ℕ → List Row → Option ℕ
by_splinters Full vars rows = by_rule rule.TwoSided vars rows
by_splinters Economical vars rows = fewest vars rows

-- the next of these columns; none where no row has one
unfoldable pub next_column : Strategy → List ℕ → List Row → Option ℕ
next_column s vars rows =
    or_else (by_equality vars rows)
    (or_else (by_rule rule.Divided vars rows)
    (or_else (by_rule rule.OneSided vars rows)
    (or_else (by_rule rule.UnitPairs vars rows)
    (by_splinters s vars rows))))
