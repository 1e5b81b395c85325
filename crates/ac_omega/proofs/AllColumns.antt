-- Over all columns: the next one is one of them, and without a next one no row has a column.
use Rattle.std.proofs.Common.{◌≡◌, ℕ, zero, suc, ◌+◌, ◌<◌, ◌≤◌, nat_lt, ◌++◌, Bool, true, false, cond, not, ◌&&◌, List, [], ◌∷◌, Option, Some, None, arith, refl, add-one, ap, ◌∙◌, subst}
use borrow.Author.Tests.{ltb-true, ltb-false}
use Rattle.std.specs.List.{filter}
use Rattle.ac_forms.specs.declared.row.Row.{Row}
use Rattle.ac_forms.specs.declared.row.Row.TheVariants.{Eq, Div, Ge}
use Rattle.ac_omega_steps.specs.Bounds.{is_one_sided}
use Rattle.ac_forms.specs.RowColumns.{has_column, is_present}
use Rattle.ac_omega.specs.declared.ranking.Rule.{Rule}
use Rattle.ac_omega.specs.declared.ranking.Rule.TheVariants as rule
use Rattle.ac_omega.specs.ColumnChoice.{better, precedes, least_from, or_else, by_equality, by_rule, passes, key, size_key, is_two_sided, precedes_by_two, splinter_key, excess_key, by_splinters, next_column}
use Rattle.ac_forms.specs.declared.conj.Conj.{Conj}
use Rattle.ac_omega.specs.WalkAnswers.{Settle, columns_to}
use Rattle.ac_omega.proofs.Emptied.{no-columns}
use Rattle.ac_omega_certify.specs.declared.strategy.Strategy.{Strategy}
use Rattle.ac_omega_certify.specs.declared.strategy.Strategy.TheVariants.{Full, Economical}

-- P holds of each of these columns
abbrev pub Every : (ℕ → Type 0) → List ℕ → Type 0
Every P [] = Unit {0}
Every P (z ∷ zs) = P z × Every P zs

every-more : (P : ℕ → Type 0) (zs : List ℕ) (y : ℕ) → Every P zs → P y → Every P (zs ++ y ∷ [])
every-more P [] y a b = (b, tt)
every-more P (z ∷ zs) y a b = (a.0, every-more P zs y a.1 b)

every-part : (P : ℕ → Type 0) (zs : List ℕ) (y : ℕ) → Every P (zs ++ y ∷ []) → Every P zs × P y
every-part P [] y a = (tt, a.0)
every-part P (z ∷ zs) y a = let b = every-part P zs y a.1 in ((a.0, b.0), b.1)

every-to : (P : ℕ → Type 0) (n : ℕ) → ((z : ℕ) → z < n → P z) → Every P (columns_to n)
every-to P zero h = tt
every-to P (suc n) h = every-more P (columns_to n) n (every-to P n (λ z l. h z (omega arith))) (h n (omega arith))

every-at : (P : ℕ → Type 0) (n z : ℕ) → Every P (columns_to n) → z < n → P z
every-at P zero z a l = absurd (omega arith)
every-at P (suc n) z a l = by (nat_lt z n) refl (every-part P (columns_to n) n a) (λ b m. every-at P n z b m)
  where
    by : (t : Bool) → nat_lt z n ≡ t → (Every P (columns_to n) × P n) → (Every P (columns_to n) → z < n → P z) → P z
    by true e part h = h part.0 (ltb-true z n e)
    by false e part h = let m : n ≤ z = ltb-false z n e in let s : n ≡ z = omega arith in subst P s part.1

better-in : (P : ℕ → Type 0) (before : ℕ → ℕ → Bool) (best : Option ℕ) (x z : ℕ) → ((y : ℕ) → best ≡ Some y → P y) → P x → better before best x ≡ Some z → P z
better-in P before None x z b l e = let s : x ≡ z = cc in subst P s l
better-in P before (Some y) x z b l e = by (before x y) e
  where
    by : (t : Bool) → Some (cond t x y) ≡ Some z → P z
    by true e = let s : x ≡ z = cc in subst P s l
    by false e = b z e

from-in : (P : ℕ → Type 0) (before : ℕ → ℕ → Bool) (best : Option ℕ) (zs : List ℕ) (z : ℕ) → ((y : ℕ) → best ≡ Some y → P y) → Every P zs → least_from before best zs ≡ Some z → P z
from-in P before best [] z b a e = b z e
from-in P before best (x ∷ xs) z b a e = from-in P before (better before best x) xs z (λ y f. better-in P before best x y b a.0 f) a.1 e

filter-in : (P : ℕ → Type 0) (test : ℕ → Bool) (zs : List ℕ) → Every P zs → Every P (filter test zs)
filter-in P test [] a = tt
filter-in P test (x ∷ xs) a = by (test x) (filter-in P test xs a.1)
  where
    by : (t : Bool) → Every P (filter test xs) → Every P (cond t (x ∷ filter test xs) (filter test xs))
    by true f = (a.0, f)
    by false f = f

none-in : (P : ℕ → Type 0) (z : ℕ) → None ≡ Some z → P z
none-in P z e = absurd cc

or-in : (P : ℕ → Type 0) (z : ℕ) (o p : Option ℕ) → (o ≡ Some z → P z) → (p ≡ Some z → P z) → or_else o p ≡ Some z → P z
or-in P z None p f g e = g e
or-in P z (Some y) p f g e = f e

least-in : (P : ℕ → Type 0) (before : ℕ → ℕ → Bool) (test : ℕ → Bool) (zs : List ℕ) (z : ℕ) → Every P zs → least_from before None (filter test zs) ≡ Some z → P z
least-in P before test zs z a e = from-in P before None (filter test zs) z (λ y. none-in P y) (filter-in P test zs a) e

equality-in : (P : ℕ → Type 0) (vars : List ℕ) (rows : List Row) (z : ℕ) → Every P vars → by_equality vars rows ≡ Some z → P z
equality-in P vars [] z a e = absurd cc
equality-in P vars (Eq f ∷ rs) z a e =
    or-in P z (least_from (precedes (size_key f)) None (filter (λ x. has_column x (Eq f)) vars)) (by_equality vars rs) (least-in P (precedes (size_key f)) (λ x. has_column x (Eq f)) vars z a) (equality-in P vars rs z a) e
equality-in P vars (Div m f ∷ rs) z a e = equality-in P vars rs z a e
equality-in P vars (Ge f ∷ rs) z a e = equality-in P vars rs z a e

rule-in : (P : ℕ → Type 0) (r : Rule) (vars : List ℕ) (rows : List Row) (z : ℕ) → Every P vars → by_rule r vars rows ≡ Some z → P z
rule-in P r vars rows z a e = least-in P (precedes (key r rows)) (passes r rows) vars z a e

splinters-in : (P : ℕ → Type 0) (strategy : Strategy) (vars : List ℕ) (rows : List Row) (z : ℕ) → Every P vars → by_splinters strategy vars rows ≡ Some z → P z
splinters-in P Full vars rows z a e = rule-in P rule.TwoSided vars rows z a e
splinters-in P Economical vars rows z a e = least-in P (precedes_by_two (splinter_key rows) (excess_key rows)) (λ x. is_two_sided x rows) vars z a e

next-in : (strategy : Strategy) (P : ℕ → Type 0) (vars : List ℕ) (rows : List Row) (z : ℕ) → Every P vars → next_column strategy vars rows ≡ Some z → P z
unfolding next_column
next-in strategy P vars rows z a e =
    or-in P z (by_equality vars rows) _ (equality-in P vars rows z a)
    (or-in P z (by_rule rule.Divided vars rows) _ (rule-in P rule.Divided vars rows z a)
    (or-in P z (by_rule rule.OneSided vars rows) _ (rule-in P rule.OneSided vars rows z a)
    (or-in P z (by_rule rule.UnitPairs vars rows) _ (rule-in P rule.UnitPairs vars rows z a) (splinters-in P strategy vars rows z a)))) e

-- where none is next
some-stays : (before : ℕ → ℕ → Bool) (y : ℕ) (zs : List ℕ) → least_from before (Some y) zs ≡ None → ⊥
some-stays before y [] e = cc
some-stays before y (x ∷ xs) e = by (before x y) (some-stays before x xs) (some-stays before y xs) e
  where
    by : (t : Bool) → (least_from before (Some x) xs ≡ None → ⊥) → (least_from before (Some y) xs ≡ None → ⊥) → least_from before (Some (cond t x y)) xs ≡ None → ⊥
    by true f g e = f e
    by false f g e = g e

none-fail : (before : ℕ → ℕ → Bool) (test : ℕ → Bool) (zs : List ℕ) → least_from before None (filter test zs) ≡ None → Every (λ z. test z ≡ false) zs
none-fail before test [] e = tt
none-fail before test (x ∷ xs) e = by (test x) refl (none-fail before test xs) e
  where
    by : (t : Bool) → test x ≡ t → (least_from before None (filter test xs) ≡ None → Every (λ z. test z ≡ false) xs) → least_from before None (cond t (x ∷ filter test xs) (filter test xs)) ≡ None → (test x ≡ false) × Every (λ z. test z ≡ false) xs
    by true is f e = absurd (some-stays before x (filter test xs) e)
    by false is f e = (is, f e)

or-none : (o p : Option ℕ) → or_else o p ≡ None → (o ≡ None) × (p ≡ None)
or-none None p e = (refl, e)
or-none (Some z) p e = absurd cc

absent : (a b : Bool) → (a && b) ≡ false → not b ≡ false → a ≡ false
absent true true e f = absurd cc
absent true false e f = absurd cc
absent false b e f = refl

none-has : (zs : List ℕ) (rows : List Row) → Every (λ z. passes rule.OneSided rows z ≡ false) zs → Every (λ z. passes rule.TwoSided rows z ≡ false) zs → Every (λ z. is_present z rows ≡ false) zs
none-has [] rows a b = tt
none-has (z ∷ zs) rows a b = (absent (is_present z rows) (is_one_sided z rows) a.0 b.0, none-has zs rows a.1 b.1)

splinters-fail : (strategy : Strategy) (vars : List ℕ) (rows : List Row) → by_splinters strategy vars rows ≡ None → Every (λ z. passes rule.TwoSided rows z ≡ false) vars
splinters-fail Full vars rows e = none-fail (precedes (key rule.TwoSided rows)) (passes rule.TwoSided rows) vars e
splinters-fail Economical vars rows e = none-fail (precedes_by_two (splinter_key rows) (excess_key rows)) (passes rule.TwoSided rows) vars e

next-none : (strategy : Strategy) (vars : List ℕ) (rows : List Row) → next_column strategy vars rows ≡ None → Every (λ z. is_present z rows ≡ false) vars
unfolding next_column
next-none strategy vars rows e =
    let a = or-none (by_equality vars rows) _ e in
    let b = or-none (by_rule rule.Divided vars rows) _ a.1 in
    let c = or-none (by_rule rule.OneSided vars rows) _ b.1 in
    let d = or-none (by_rule rule.UnitPairs vars rows) _ c.1 in
    none-has vars rows (none-fail (precedes (key rule.OneSided rows)) (passes rule.OneSided rows) vars c.0) (splinters-fail strategy vars rows d.1)

-- each column that is next is below that many
abbrev pub AreBelow : Strategy → ℕ → List ℕ → Type 0
AreBelow strategy n vars = (c : Conj) (z : ℕ) → next_column strategy vars c.rows ≡ Some z → z < n

pub all-below : (strategy : Strategy) (n : ℕ) (vars : List ℕ) → vars ≡ columns_to n → AreBelow strategy n vars
all-below strategy n vars v = λ c z e. next-in strategy (λ y. y < n) vars c.rows z (rw v (every-to (λ y. y < n) n (λ y l. l))) e

pub all-settle : (strategy : Strategy) (n : ℕ) (vars : List ℕ) → vars ≡ columns_to n → Settle strategy n vars
all-settle strategy n vars v = λ c made normal is a e.
    no-columns c made normal a (λ z l. every-at (λ y. is_present y c.rows ≡ false) n z (subst (Every (λ y. is_present y c.rows ≡ false)) v (next-none strategy vars c.rows e)) (subst (λ m. z < m) is l))

pub columns-more : (vars next : List ℕ) (z : ℕ) → vars ≡ columns_to z → next ≡ vars ++ z ∷ [] → next ≡ columns_to (z + 1)
columns-more vars next z v e = rw (add-one z) (e ∙ ap (λ zs. zs ++ z ∷ []) v)
