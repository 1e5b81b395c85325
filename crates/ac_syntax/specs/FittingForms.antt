-- Index expressions and comparisons with quotients that fit a number of parameters and of iterators.
use Rattle.std.specs.Prelude.{ℕ, ◌≡◌, ◌≤ℤ◌, pos, List, [], length}
use Rattle.std.specs.List.{AllByRecursion}
use Rattle.ac_syntax.specs.declared.tree.Comparison.{Comparison}
use Rattle.ac_syntax.specs.declared.tree.IndexExpr.{IndexExpr}
use Rattle.ac_syntax.specs.declared.tree.Quot.{Quot}
use Rattle.ac_syntax.specs.declared.tree.Rel.{Rel}
use Rattle.ac_syntax.specs.declared.tree.Rel.TheVariants.{NonNegative, Zero, Divides}

-- a coefficient for each of ps parameters and of xs iterators, and a divisor that is at least 1
pub record FitsQuot (ps xs : ℕ) (q : Quot) : Type 0 where
  pub params : length q.params ≡ ps
  pub iters : length q.iters ≡ xs
  pub div : pos 1 ≤ℤ q.div

-- an index expression, which may have quotients
pub record FitsForm (ps xs : ℕ) (e : IndexExpr) : Type 0 where
  pub params : length e.params ≡ ps
  pub iters : length e.iters ≡ xs
  pub quots : AllByRecursion (FitsQuot ps xs) e.quots

-- a form whose divisor is tested has no quotient
abbrev pub FitsRel : Rel → IndexExpr → Type 0
FitsRel NonNegative e = Unit {0}
FitsRel Zero e = Unit {0}
FitsRel (Divides m) e = (pos 1 ≤ℤ m) × (e.quots ≡ [])

-- a comparison, which may have quotients or test a divisor
pub record FitsTest (ps xs : ℕ) (c : Comparison) : Type 0 where
  pub form : FitsForm ps xs c.form
  pub rel : FitsRel c.rel c.form

abbrev pub FitTests : ℕ → ℕ → List Comparison → Type 0
FitTests ps xs = AllByRecursion (FitsTest ps xs)

-- index expressions one after another, as the subscripts of an array
abbrev pub FormsFit : ℕ → ℕ → List IndexExpr → Type 0
FormsFit ps xs = AllByRecursion (FitsForm ps xs)
