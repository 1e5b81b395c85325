-- Where no column is next, no row has one of them.
use Rattle.std.proofs.Common.{◌≡◌, ℕ, Bool, true, false, cond, not, ◌&&◌, ◌||◌, ◌==◌, ℤ, List, [], ◌∷◌, Option, Some, None, refl}
use Rattle.std.proofs.lemmas.Bool.{eqb-true}
use Rattle.std.specs.List.{filter}
use Rattle.ac_forms.specs.declared.conj.Conj.{Conj}
use Rattle.ac_forms.specs.declared.row.Row.{Row}
use Rattle.ac_omega_steps.specs.Bounds.{is_one_sided}
use Rattle.ac_omega_steps.specs.Choices.{are_absurd}
use Rattle.ac_omega_steps.specs.declared.choose.Choice.{Choice}
use Rattle.ac_omega.specs.declared.ranking.Rule.TheVariants as rule
use Rattle.ac_omega.specs.declared.piece.Piece.{Piece}
use Rattle.ac_omega.specs.EliminationAnswers.{parts}
use Rattle.ac_omega.specs.ColumnChoice.{precedes, precedes_by_two, least_from, or_else, by_equality, by_rule, passes, key, splinter_key, excess_key, by_splinters, next_column}
use Rattle.ac_forms.specs.RowColumns.{is_present}
use Rattle.ac_omega.specs.ColumnElimination.{elimination, look, look_at}
use Rattle.ac_omega.specs.Projection.{is_among, HaveNone, AllEmpty}
use Rattle.ac_omega_certify.specs.Alternatives.{alternatives_for}
use Rattle.ac_omega.specs.Walk.{Done, Absurd, Open}
use Rattle.ac_omega.proofs.Sweeps.{AllDone}
use Rattle.ac_omega_certify.specs.declared.strategy.Strategy.{Strategy}
use Rattle.ac_omega_certify.specs.declared.strategy.Strategy.TheVariants.{Full, Economical}

some-stays : (before : ℕ → ℕ → Bool) (y : ℕ) (zs : List ℕ) → least_from before (Some y) zs ≡ None → ⊥
some-stays before y [] e = cc
some-stays before y (x ∷ xs) e = by (before x y) (some-stays before x xs) (some-stays before y xs) e
  where
    by : (t : Bool) → (least_from before (Some x) xs ≡ None → ⊥) → (least_from before (Some y) xs ≡ None → ⊥) → least_from before (Some (cond t x y)) xs ≡ None → ⊥
    by true f g e = f e
    by false f g e = g e

-- the test fails at each
unfoldable pub AllFail : (ℕ → Bool) → List ℕ → Type 0
AllFail test [] = Unit {0}
AllFail test (z ∷ zs) = (test z ≡ false) × AllFail test zs

pub none-fail : (before : ℕ → ℕ → Bool) (test : ℕ → Bool) (zs : List ℕ) → least_from before None (filter test zs) ≡ None → AllFail test zs
unfolding AllFail
none-fail before test [] e = tt
none-fail before test (x ∷ xs) e = by (test x) refl (none-fail before test xs) e
  where
    by : (t : Bool) → test x ≡ t → (least_from before None (filter test xs) ≡ None → AllFail test xs) → least_from before None (cond t (x ∷ filter test xs) (filter test xs)) ≡ None → (test x ≡ false) × AllFail test xs
    by true is f e = absurd (some-stays before x (filter test xs) e)
    by false is f e = (is, f e)

or-none : (o p : Option ℕ) → or_else o p ≡ None → (o ≡ None) × (p ≡ None)
or-none None p e = (refl, e)
or-none (Some z) p e = absurd cc

absent : (a b : Bool) → (a && b) ≡ false → not b ≡ false → a ≡ false
absent true true e f = absurd cc
absent true false e f = absurd cc
absent false b e f = refl

none-has : (vars : List ℕ) (rows : List Row) → AllFail (passes rule.OneSided rows) vars → AllFail (passes rule.TwoSided rows) vars → HaveNone vars rows
unfolding AllFail
none-has [] rows a b = tt
none-has (z ∷ zs) rows a b = (absent (is_present z rows) (is_one_sided z rows) a.0 b.0, none-has zs rows a.1 b.1)

splinters-fail : (strategy : Strategy) (vars : List ℕ) (rows : List Row) → by_splinters strategy vars rows ≡ None → AllFail (passes rule.TwoSided rows) vars
splinters-fail Full vars rows e = none-fail (precedes (key rule.TwoSided rows)) (passes rule.TwoSided rows) vars e
splinters-fail Economical vars rows e = none-fail (precedes_by_two (splinter_key rows) (excess_key rows)) (passes rule.TwoSided rows) vars e

pub next-none : (strategy : Strategy) (vars : List ℕ) (rows : List Row) → next_column strategy vars rows ≡ None → HaveNone vars rows
unfolding next_column
next-none strategy vars rows e =
    let a = or-none (by_equality vars rows) _ e in
    let b = or-none (by_rule rule.Divided vars rows) _ a.1 in
    let c = or-none (by_rule rule.OneSided vars rows) _ b.1 in
    let d = or-none (by_rule rule.UnitPairs vars rows) _ c.1 in
    none-has vars rows (none-fail (precedes (key rule.OneSided rows)) (passes rule.OneSided rows) vars c.0) (splinters-fail strategy vars rows d.1)

pub look-done : (strategy : Strategy) (vars : List ℕ) (c : Conj) (q : List ℤ) → look strategy vars c ≡ Done q → next_column strategy vars c.rows ≡ None
look-done strategy vars c q e = by (are_absurd c.rows) (next_column strategy vars c.rows) e
  where
    by : (t : Bool) (o : Option ℕ) → cond t Absurd (look_at strategy c o) ≡ Done q → o ≡ None
    by true o e = absurd cc
    by false None e = refl
    by false (Some z) e = absurd cc

pub look-absurd : (strategy : Strategy) (vars : List ℕ) (c : Conj) → look strategy vars c ≡ Absurd → are_absurd c.rows ≡ true
look-absurd strategy vars c e = by (are_absurd c.rows) (next_column strategy vars c.rows) e
  where
    by : (t : Bool) (o : Option ℕ) → cond t Absurd (look_at strategy c o) ≡ Absurd → t ≡ true
    by true o e = refl
    by false None e = absurd cc
    by false (Some z) e = absurd cc

-- what stands where there are choices
pub record IsOpen (strategy : Strategy) (vars : List ℕ) (c : Conj) (hs : List (Option Choice)) : Type 0 where
  pub column : ℕ
  pub next : next_column strategy vars c.rows ≡ Some column
  pub not_absurd : are_absurd c.rows ≡ false
  pub tries : hs ≡ alternatives_for strategy column c.rows

pub look-open : (strategy : Strategy) (vars : List ℕ) (c : Conj) (hs : List (Option Choice)) → look strategy vars c ≡ Open hs → IsOpen strategy vars c hs
look-open strategy vars c hs e = by (are_absurd c.rows) (next_column strategy vars c.rows) refl refl e
  where
    by : (t : Bool) (o : Option ℕ) → are_absurd c.rows ≡ t → next_column strategy vars c.rows ≡ o → cond t Absurd (look_at strategy c o) ≡ Open hs → IsOpen strategy vars c hs
    by true o a n e = absurd cc
    by false None a n e = absurd cc
    by false (Some z) a n e = record { column = z; next = n; not_absurd = a; tries = cc }

pub all-gone : (strategy : Strategy) (vars : List ℕ) (ps : List Piece) → AllDone (elimination strategy vars) (parts ps) → AllEmpty vars ps
unfolding AllDone elimination
all-gone strategy vars [] a = tt
all-gone strategy vars (p ∷ ps) a = (next-none strategy vars p.rest.rows (look-done strategy vars p.rest a.0.0 a.0.1), all-gone strategy vars ps a.1)

-- a column among these is in no row
pub none-at : (vars : List ℕ) (rows : List Row) (z : ℕ) → HaveNone vars rows → is_among z vars ≡ true → is_present z rows ≡ false
none-at [] rows z h e = absurd cc
none-at (y ∷ ys) rows z h e = by (z == y) refl (none-at ys rows z h.1) e
  where
    by : (t : Bool) → (z == y) ≡ t → (is_among z ys ≡ true → is_present z rows ≡ false) → (t || is_among z ys) ≡ true → is_present z rows ≡ false
    by true is f e = let s = eqb-true z y is in rw s h.0
    by false is f e = f e
