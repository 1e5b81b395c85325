-- Which names of the text stand for the columns of a form where the rules look names up, and which quotients the rules take there.
use Rattle.std.specs.Prelude.{◌≡◌, ◌≤◌, ◌≤ℤ◌, ℕ, ◌+◌, true, false, List, [], ◌∷◌, length, ℤ, pos}
use Rattle.std.specs.List.{AllByRecursion}
use Rattle.ac_syntax.specs.declared.tree.Quot.{Quot}
use Rattle.ac_syntax.specs.declared.tree.IndexExpr.{IndexExpr}
use Rattle.ac_syntax.specs.declared.tree.Rel.{Rel}
use Rattle.ac_syntax.specs.declared.tree.Rel.TheVariants.{NonNegative, Zero, Divides}
use Rattle.ac_syntax.specs.declared.tree.Comparison.{Comparison}
use Rattle.ac_syntax.specs.Index.{is_zero}
use Rattle.ac_syntax.specs.Turns.{innermost}
use Rattle.ac_syntax.specs.Quotients.{same_quot}
use Rattle.ac_syntax.specs.Small.{IsSmall}
use Rattle.ac_syntax.specs.Text.{is_other_than_zero}
use Rattle.ac_syntax.specs.Text as text
use Rattle.ac_parse_exprs.specs.declared.scope.Meaning.{Meaning}
use Rattle.ac_parse_exprs.specs.declared.scope.Meaning.TheVariants.{Parameter, Iterator}
use Rattle.ac_parse_exprs.specs.declared.scope.Entry.{Entry}
use Rattle.ac_parse_exprs.specs.declared.scope.Scope.{Scope}
use Rattle.ac_parse_exprs.specs.Meanings.{meaning}

-- a name that stands for this
pub record Stands (names : List Entry) (scope : Scope) (name : List ℕ) (m : Meaning) : Type 0 where
  pub means : meaning names scope name ≡ m

-- a name for each coefficient; where that is other than 0, the name stands for the column, counted from k on
abbrev pub NameColumns : List Entry → Scope → (ℕ → Meaning) → ℕ → List ℤ → List (List ℕ) → Type 0
NameColumns names scope column k [] [] = Unit {0}
NameColumns names scope column k [] (n ∷ ns) = ⊥
NameColumns names scope column k (c ∷ cs) [] = ⊥
NameColumns names scope column k (c ∷ cs) (n ∷ ns) =
    (is_other_than_zero c ≡ true → Stands names scope n (column k)) × NameColumns names scope column (k + 1) cs ns

-- a constant and coefficients that are small, in a scope of the text, as the rules look its names up
pub record FitColumns (names : List Entry) (scope : Scope) (written : text.Scope) (constant : ℤ) (params iters : List ℤ) : Type 0 where
  pub width : length params ≡ scope.params
  pub depth : length iters ≡ length scope.iterators
  pub small : IsSmall constant
  pub small_params : AllByRecursion IsSmall params
  pub small_iters : AllByRecursion IsSmall iters
  pub param_names : NameColumns names scope (λ k. Parameter k) 0 params written.params
  pub iter_names : NameColumns names scope (λ k. Iterator k) 0 iters written.iters

-- ---- quotients and divisors

-- what has these coefficients may be divided by m in a scope; in the condition of a loop it doesn't change from turn to turn
pub record MayDivide (scope : Scope) (iters : List ℤ) (m : ℤ) : Type 0 where
  pub free : scope.fixed ≡ false
  pub steady : scope.tested ≡ true → is_zero (innermost iters) ≡ true
  pub positive : pos 1 ≤ℤ m
  pub small : IsSmall m

-- a quotient that counts
pub record FitsQuotient (names : List Entry) (scope : Scope) (written : text.Scope) (q : Quot) : Type 0 where
  pub coef : is_other_than_zero q.coef ≡ true
  pub small : IsSmall q.coef
  pub argument : FitColumns names scope written q.konst q.params q.iters
  pub divisor : MayDivide scope q.iters q.div

-- no two of them are equal
abbrev pub AreDistinct : List Quot → Type 0
AreDistinct [] = Unit {0}
AreDistinct (q ∷ qs) = AllByRecursion (λ r. same_quot r q ≡ false) qs × AreDistinct qs

-- ---- forms and comparisons

pub record FitsScope (names : List Entry) (scope : Scope) (written : text.Scope) (e : IndexExpr) : Type 0 where
  pub columns : FitColumns names scope written e.konst e.params e.iters
  pub quotients : AllByRecursion (FitsQuotient names scope written) e.quots
  pub distinct : AreDistinct e.quots
  pub few : length e.quots ≤ 65536

abbrev pub FitScope : List Entry → Scope → text.Scope → List IndexExpr → Type 0
FitScope names scope written = AllByRecursion (FitsScope names scope written)

-- a form of which a divisor is tested has no quotient
pub record FitsTest (scope : Scope) (m : ℤ) (e : IndexExpr) : Type 0 where
  pub divisor : MayDivide scope e.iters m
  pub plain : e.quots ≡ []

abbrev pub FitsRel : Scope → Rel → IndexExpr → Type 0
FitsRel scope NonNegative e = Unit {0}
FitsRel scope Zero e = Unit {0}
FitsRel scope (Divides m) e = FitsTest scope m e

pub record PartFitsScope (names : List Entry) (scope : Scope) (written : text.Scope) (c : Comparison) : Type 0 where
  pub form : FitsScope names scope written c.form
  pub rel : FitsRel scope c.rel c.form

abbrev pub PartsFitScope : List Entry → Scope → text.Scope → List Comparison → Type 0
PartsFitScope names scope written = AllByRecursion (PartFitsScope names scope written)
