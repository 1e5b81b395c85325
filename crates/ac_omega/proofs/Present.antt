-- The next column is in some row, so it is one of the conjunction's.
use Rattle.std.proofs.Common.{◌≡◌, ◌⊎◌, inl, inr, ℕ, ◌<◌, ◌≤◌, nat_lt, ◌==◌, cond, Bool, true, false, not, ◌&&◌, ◌||◌, ℤ, pos, int_eq, List, [], ◌∷◌, Option, Some, None, arith, refl}
use Rattle.std.specs.Int.Signed.{lt_z}
use Rattle.std.specs.List.{filter}
use Rattle.std.proofs.lemmas.Int.{ints}
use Rattle.std.proofs.lemmas.List.{get_or_past}
use borrow.Author.Tests.{eqb-true, ltb-true, ltb-false}
use Rattle.ac_forms.specs.Affine.{coef}
use Rattle.ac_forms.specs.Rows.{IsWellMade, AreRowsOver, form_of}
use Rattle.ac_forms.specs.declared.conj.Conj.{Conj}
use Rattle.ac_forms.specs.declared.row.Row.{Row}
use Rattle.ac_forms.specs.declared.row.Row.TheVariants.{Eq, Div, Ge}
use Rattle.ac_omega_steps.specs.Bounds.{is_low, low_bound, lows, highs, is_none, is_one_sided}
use Rattle.ac_forms.specs.RowColumns.{has_column, is_present}
use Rattle.ac_omega_certify.specs.Alternatives.{has_divisibility}
use Rattle.ac_omega.specs.ColumnChoice.{is_two_sided, are_unit_pairs, least_by, or_else, by_equality, by_rule, passes, key, size_key, precedes, precedes_by_two, splinter_key, excess_key, by_splinters, next_column}
use Rattle.ac_omega.specs.declared.ranking.Rule.{Rule}
use Rattle.ac_omega.specs.declared.ranking.Rule.TheVariants as rule
use Rattle.ac_omega.specs.Projection.{is_among}
use Rattle.ac_omega.proofs.Nexts.{least-among}
use Rattle.ac_omega_certify.specs.declared.strategy.Strategy.{Strategy}
use Rattle.ac_omega_certify.specs.declared.strategy.Strategy.TheVariants.{Full, Economical}

-- the least of those that pass passes
among-filter : (test : ℕ → Bool) (z : ℕ) (zs : List ℕ) → is_among z (filter test zs) ≡ true → test z ≡ true
among-filter test z [] e = absurd cc
among-filter test z (x ∷ xs) e = by (test x) refl (among-filter test z xs) e
  where
    at : (u : Bool) → (z == x) ≡ u → test x ≡ true → (is_among z (filter test xs) ≡ true → test z ≡ true) → (u || is_among z (filter test xs)) ≡ true → test z ≡ true
    at true s f i e = let q = eqb-true z x s in rw q f
    at false s f i e = i e

    by : (t : Bool) → test x ≡ t → (is_among z (filter test xs) ≡ true → test z ≡ true) → is_among z (cond t (x ∷ filter test xs) (filter test xs)) ≡ true → test z ≡ true
    by true f i e = at (z == x) refl f i e
    by false f i e = i e

least-passes : (before : ℕ → ℕ → Bool) (test : ℕ → Bool) (zs : List ℕ) (z : ℕ) → least_by before (filter test zs) ≡ Some z → test z ≡ true
least-passes before test zs z e = among-filter test z zs (least-among before (filter test zs) z e)

else-of : (o p : Option ℕ) (z : ℕ) → or_else o p ≡ Some z → (o ≡ Some z) ⊎ (p ≡ Some z)
else-of None p z e = inr e
else-of (Some y) p z e = inl e

or-first : (a b : Bool) → a ≡ true → (a || b) ≡ true
or-first true b e = refl
or-first false b e = absurd cc

or-second : (a b : Bool) → b ≡ true → (a || b) ≡ true
or-second true b e = refl
or-second false b e = e

and-first : (a b : Bool) → (a && b) ≡ true → a ≡ true
and-first true b e = refl
and-first false b e = absurd cc

equality-present : (vars : List ℕ) (rows : List Row) (z : ℕ) → by_equality vars rows ≡ Some z → is_present z rows ≡ true
equality-present vars [] z e = absurd cc
equality-present vars (Eq f ∷ rs) z e = elim (else-of (least_by (precedes (size_key f)) (filter (λ x. has_column x (Eq f)) vars)) (by_equality vars rs) z e) [
  | inl h ↦ or-first (has_column z (Eq f)) (is_present z rs) (least-passes (precedes (size_key f)) (λ x. has_column x (Eq f)) vars z h)
  | inr h ↦ or-second (has_column z (Eq f)) (is_present z rs) (equality-present vars rs z h)
]
equality-present vars (Div m f ∷ rs) z e = or-second (has_column z (Div m f)) (is_present z rs) (equality-present vars rs z e)
equality-present vars (Ge f ∷ rs) z e = or-second (has_column z (Ge f)) (is_present z rs) (equality-present vars rs z e)

or-either : (a b : Bool) → (a || b) ≡ true → (a ≡ true) ⊎ (b ≡ true)
or-either true b e = inl refl
or-either false b e = inr e

divided-present : (z : ℕ) (rows : List Row) → has_divisibility z rows ≡ true → is_present z rows ≡ true
divided-present z [] e = absurd cc
divided-present z (Eq f ∷ rs) e = or-second (has_column z (Eq f)) (is_present z rs) (divided-present z rs e)
divided-present z (Div m f ∷ rs) e = elim (or-either (has_column z (Div m f)) (has_divisibility z rs) e) [
  | inl h ↦ or-first (has_column z (Div m f)) (is_present z rs) h
  | inr h ↦ or-second (has_column z (Div m f)) (is_present z rs) (divided-present z rs h)
]
divided-present z (Ge f ∷ rs) e = or-second (has_column z (Ge f)) (is_present z rs) (divided-present z rs e)

low-has : (c : ℤ) → lt_z (pos 0) c ≡ true → not (int_eq c (pos 0)) ≡ true
low-has c e = grind (arith, ints, e)

lows-present : (z : ℕ) (rows : List Row) → is_none (lows z rows) ≡ false → is_present z rows ≡ true
lows-present z [] e = absurd cc
lows-present z (Eq f ∷ rs) e = or-second (has_column z (Eq f)) (is_present z rs) (lows-present z rs e)
lows-present z (Div m f ∷ rs) e = or-second (has_column z (Div m f)) (is_present z rs) (lows-present z rs e)
lows-present z (Ge f ∷ rs) e = by (is_low z f) refl (lows-present z rs) e
  where
    by : (t : Bool) → is_low z f ≡ t → (is_none (lows z rs) ≡ false → is_present z rs ≡ true) → is_none (cond t (low_bound z f ∷ lows z rs) (lows z rs)) ≡ false → is_present z (Ge f ∷ rs) ≡ true
    by true l i e = or-first (has_column z (Ge f)) (is_present z rs) (low-has (coef z f) l)
    by false l i e = or-second (has_column z (Ge f)) (is_present z rs) (i e)

neither-none : (a b : Bool) → not (a || b) ≡ true → a ≡ false
neither-none true b e = absurd cc
neither-none false b e = refl

two-present : (z : ℕ) (rows : List Row) → is_two_sided z rows ≡ true → is_present z rows ≡ true
two-present z rows e = lows-present z rows (neither-none (is_none (lows z rows)) (is_none (highs z rows)) e)

passes-present : (r : Rule) (rows : List Row) (z : ℕ) → passes r rows z ≡ true → is_present z rows ≡ true
passes-present rule.Divided rows z e = divided-present z rows e
passes-present rule.OneSided rows z e = and-first (is_present z rows) (is_one_sided z rows) e
passes-present rule.UnitPairs rows z e = two-present z rows (and-first (is_two_sided z rows) (are_unit_pairs (lows z rows) (highs z rows)) e)
passes-present rule.TwoSided rows z e = two-present z rows e

rule-present : (r : Rule) (vars : List ℕ) (rows : List Row) (z : ℕ) → by_rule r vars rows ≡ Some z → is_present z rows ≡ true
rule-present r vars rows z e = passes-present r rows z (least-passes (precedes (key r rows)) (passes r rows) vars z e)

splinters-present : (strategy : Strategy) (vars : List ℕ) (rows : List Row) (z : ℕ) → by_splinters strategy vars rows ≡ Some z → is_present z rows ≡ true
splinters-present Full vars rows z e = rule-present rule.TwoSided vars rows z e
splinters-present Economical vars rows z e = two-present z rows (least-passes (precedes_by_two (splinter_key rows) (excess_key rows)) (λ x. is_two_sided x rows) vars z e)

pub next-present : (strategy : Strategy) (vars : List ℕ) (rows : List Row) (z : ℕ) → next_column strategy vars rows ≡ Some z → is_present z rows ≡ true
unfolding next_column
next-present strategy vars rows z e = elim (else-of (by_equality vars rows) _ z e) [
  | inl h ↦ equality-present vars rows z h
  | inr h ↦ elim (else-of (by_rule rule.Divided vars rows) _ z h) [
    | inl g ↦ rule-present rule.Divided vars rows z g
    | inr g ↦ elim (else-of (by_rule rule.OneSided vars rows) _ z g) [
      | inl k ↦ rule-present rule.OneSided vars rows z k
      | inr k ↦ elim (else-of (by_rule rule.UnitPairs vars rows) _ z k) [
        | inl l ↦ rule-present rule.UnitPairs vars rows z l
        | inr l ↦ splinters-present strategy vars rows z l
      ]
    ]
  ]
]

-- rows have no column behind those that they are over
past-none : (n z : ℕ) (rows : List Row) → AreRowsOver n rows → n ≤ z → is_present z rows ≡ false
past-none n z [] w l = refl
past-none n z (r ∷ rs) w l =
    let e : coef z (form_of r) ≡ pos 0 = get_or_past (form_of r).coefs z (pos 0) (omega (arith, w.0.0)) in
    rw (absent-test (coef z (form_of r)) e) (past-none n z rs w.1 l)
  where
    absent-test : (c : ℤ) → c ≡ pos 0 → not (int_eq c (pos 0)) ≡ false
    absent-test c e = rw e refl

pub next-within : (strategy : Strategy) (vars : List ℕ) (c : Conj) (z : ℕ) → IsWellMade c → next_column strategy vars c.rows ≡ Some z → z < c.columns
next-within strategy vars c z made e = by (nat_lt z c.columns) refl
  where
    differ : {t : Bool} → t ≡ true → t ≡ false → ⊥
    differ e f = cc

    by : (t : Bool) → nat_lt z c.columns ≡ t → z < c.columns
    by true l = ltb-true z c.columns l
    by false l = absurd (differ (next-present strategy vars c.rows z e) (past-none c.columns z c.rows made (ltb-false z c.columns l)))
