-- The next column is one of the columns, and its choices are of it.
use Rattle.std.proofs.Common.{◌≡◌, inl, inr, ℕ, Bool, true, false, cond, ◌||◌, ◌==◌, eq-eqb, List, [], ◌∷◌, Option, Some, None, refl, subst}
use Rattle.std.specs.List.{filter}
use Rattle.ac_forms.specs.declared.row.Row.{Row}
use Rattle.ac_forms.specs.declared.row.Row.TheVariants.{Eq, Div, Ge}
use Rattle.ac_forms.specs.RowColumns.{has_column}
use Rattle.ac_omega_steps.specs.declared.choose.Choice.{Choice}
use Rattle.ac_omega.specs.ColumnChoice.{better, precedes, least_from, or_else, by_equality, by_rule, passes, key, size_key, is_two_sided, precedes_by_two, splinter_key, excess_key, by_splinters, next_column}
use Rattle.ac_omega.specs.declared.ranking.Rule.{Rule}
use Rattle.ac_omega.specs.declared.ranking.Rule.TheVariants as rule
use Rattle.ac_omega.specs.Projection.{is_among}
use Rattle.ac_omega_certify.specs.Alternatives.{Alternatives}
use Rattle.ac_omega.specs.Walk.{IsTried}
use Rattle.ac_omega.proofs.Legal.{Allowed, AreAllowed}
use Rattle.ac_omega_certify.specs.declared.strategy.Strategy.{Strategy}
use Rattle.ac_omega_certify.specs.declared.strategy.Strategy.TheVariants.{Full, Economical}

-- P holds of each of these columns
abbrev pub Each : (ℕ → Type 0) → List ℕ → Type 0
Each P [] = Unit {0}
Each P (z ∷ zs) = P z × Each P zs

better-in : (P : ℕ → Type 0) (before : ℕ → ℕ → Bool) (best : Option ℕ) (x z : ℕ) → ((y : ℕ) → best ≡ Some y → P y) → P x → better before best x ≡ Some z → P z
better-in P before None x z b l e = let s : x ≡ z = cc in subst P s l
better-in P before (Some y) x z b l e = by (before x y) e
  where
    by : (t : Bool) → Some (cond t x y) ≡ Some z → P z
    by true e = let s : x ≡ z = cc in subst P s l
    by false e = b z e

from-in : (P : ℕ → Type 0) (before : ℕ → ℕ → Bool) (best : Option ℕ) (zs : List ℕ) (z : ℕ) → ((y : ℕ) → best ≡ Some y → P y) → Each P zs → least_from before best zs ≡ Some z → P z
from-in P before best [] z b a e = b z e
from-in P before best (x ∷ xs) z b a e = from-in P before (better before best x) xs z (λ y f. better-in P before best x y b a.0 f) a.1 e

filter-in : (P : ℕ → Type 0) (test : ℕ → Bool) (zs : List ℕ) → Each P zs → Each P (filter test zs)
filter-in P test [] a = tt
filter-in P test (x ∷ xs) a = by (test x) (filter-in P test xs a.1)
  where
    by : (t : Bool) → Each P (filter test xs) → Each P (cond t (x ∷ filter test xs) (filter test xs))
    by true f = (a.0, f)
    by false f = f

none-in : (P : ℕ → Type 0) (z : ℕ) → None ≡ Some z → P z
none-in P z e = absurd cc

or-in : (P : ℕ → Type 0) (z : ℕ) (o p : Option ℕ) → (o ≡ Some z → P z) → (p ≡ Some z → P z) → or_else o p ≡ Some z → P z
or-in P z None p f g e = g e
or-in P z (Some y) p f g e = f e

least-in : (P : ℕ → Type 0) (before : ℕ → ℕ → Bool) (test : ℕ → Bool) (zs : List ℕ) (z : ℕ) → Each P zs → least_from before None (filter test zs) ≡ Some z → P z
least-in P before test zs z a e = from-in P before None (filter test zs) z (λ y. none-in P y) (filter-in P test zs a) e

equality-in : (P : ℕ → Type 0) (vars : List ℕ) (rows : List Row) (z : ℕ) → Each P vars → by_equality vars rows ≡ Some z → P z
equality-in P vars [] z a e = absurd cc
equality-in P vars (Eq f ∷ rs) z a e =
    or-in P z (least_from (precedes (size_key f)) None (filter (λ x. has_column x (Eq f)) vars)) (by_equality vars rs) (least-in P (precedes (size_key f)) (λ x. has_column x (Eq f)) vars z a) (equality-in P vars rs z a) e
equality-in P vars (Div m f ∷ rs) z a e = equality-in P vars rs z a e
equality-in P vars (Ge f ∷ rs) z a e = equality-in P vars rs z a e

rule-in : (P : ℕ → Type 0) (r : Rule) (vars : List ℕ) (rows : List Row) (z : ℕ) → Each P vars → by_rule r vars rows ≡ Some z → P z
rule-in P r vars rows z a e = least-in P (precedes (key r rows)) (passes r rows) vars z a e

splinters-in : (P : ℕ → Type 0) (strategy : Strategy) (vars : List ℕ) (rows : List Row) (z : ℕ) → Each P vars → by_splinters strategy vars rows ≡ Some z → P z
splinters-in P Full vars rows z a e = rule-in P rule.TwoSided vars rows z a e
splinters-in P Economical vars rows z a e = least-in P (precedes_by_two (splinter_key rows) (excess_key rows)) (λ x. is_two_sided x rows) vars z a e

-- what holds of each column holds of the next one
next-in : (strategy : Strategy) (P : ℕ → Type 0) (vars : List ℕ) (rows : List Row) (z : ℕ) → Each P vars → next_column strategy vars rows ≡ Some z → P z
unfolding next_column
next-in strategy P vars rows z a e =
    or-in P z (by_equality vars rows) _ (equality-in P vars rows z a)
    (or-in P z (by_rule rule.Divided vars rows) _ (rule-in P rule.Divided vars rows z a)
    (or-in P z (by_rule rule.OneSided vars rows) _ (rule-in P rule.OneSided vars rows z a)
    (or-in P z (by_rule rule.UnitPairs vars rows) _ (rule-in P rule.UnitPairs vars rows z a) (splinters-in P strategy vars rows z a)))) e

each-more : (y : ℕ) (zs vars : List ℕ) → Each (λ z. is_among z vars ≡ true) zs → Each (λ z. is_among z (y ∷ vars) ≡ true) zs
each-more y [] vars a = tt
each-more y (z ∷ zs) vars a = (rw a.0 (elim (z == y) as (λ t. (t || true) ≡ true) [ true ↦ refl | false ↦ refl ]), each-more y zs vars a.1)

each-among : (vars : List ℕ) → Each (λ z. is_among z vars ≡ true) vars
each-among [] = tt
each-among (z ∷ zs) = (rw (eq-eqb z z refl) refl, each-more z zs zs (each-among zs))

pub least-among : (before : ℕ → ℕ → Bool) (zs : List ℕ) (z : ℕ) → least_from before None zs ≡ Some z → is_among z zs ≡ true
least-among before zs z e = from-in (λ y. is_among y zs ≡ true) before None zs z (λ y. none-in (λ x. is_among x zs ≡ true) y) (each-among zs) e

pub next-among : (strategy : Strategy) (vars : List ℕ) (rows : List Row) (z : ℕ) → next_column strategy vars rows ≡ Some z → is_among z vars ≡ true
next-among strategy vars rows z e = next-in strategy (λ y. is_among y vars ≡ true) vars rows z (each-among vars) e

pub allowed-each : (z : ℕ) (rows : List Row) (hs : Alternatives) (h : Choice) → AreAllowed z rows hs → IsTried h hs → Allowed z rows h
unfolding AreAllowed
allowed-each z rows [] h a i = absurd i
allowed-each z rows (None ∷ hs) h a (inl s) = absurd cc
allowed-each z rows (None ∷ hs) h a (inr i) = allowed-each z rows hs h a i
allowed-each z rows (Some x ∷ hs) h a (inl s) = let e : x ≡ h = cc in subst (Allowed z rows) e a.0
allowed-each z rows (Some x ∷ hs) h a (inr i) = allowed-each z rows hs h a.1 i
