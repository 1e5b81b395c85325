-- Programs whose loops end, whose branches have a condition, and whose index expressions have one coefficient for each parameter
-- and for each iterator in scope. Statements may have quotients: divisors are at least 1, and nothing that a condition rounds
-- changes with its own loop. Extents and contexts are over the parameters alone and have no quotient.
use Rattle.std.specs.Prelude.{ℕ, ◌+◌, ◌<◌, ◌≡◌, List, [], length}
use Rattle.std.specs.List.{AllByRecursion}
use Rattle.ac_syntax.specs.FittingForms.{FitsForm, FormsFit, FitTests}
use Rattle.ac_syntax.specs.Turns.{Bounded, IsSteady}
use Rattle.ac_syntax.specs.declared.tree.IndexExpr.{IndexExpr}
use Rattle.ac_syntax.specs.declared.tree.Rel.{Rel}
use Rattle.ac_syntax.specs.declared.tree.Rel.TheVariants.{NonNegative, Zero, Divides}
use Rattle.ac_syntax.specs.declared.tree.Comparison.{Comparison}
use Rattle.ac_syntax.specs.declared.tree.Array.{Array}
use Rattle.ac_syntax.specs.declared.tree.Program.{Program}
use Rattle.ac_syntax.specs.declared.tree.Value.{Value, Row_of-Value, end_of-Value, more_of-Value}
use Rattle.ac_syntax.specs.declared.tree.Value.TheVariants.{Number, Access, Call'}
use Rattle.ac_syntax.specs.declared.tree.Stmt.{Stmt, Row_of-Stmt, end_of-Stmt, more_of-Stmt}
use Rattle.ac_syntax.specs.declared.tree.Stmt.TheVariants.{For', If', Assign}

-- a coefficient for each of ps parameters and of xs iterators, and no quotient
pub record Fits (ps xs : ℕ) (e : IndexExpr) : Type 0 where
  pub params : length e.params ≡ ps
  pub iters : length e.iters ≡ xs
  pub plain : e.quots ≡ []

abbrev pub AllFit : ℕ → ℕ → List IndexExpr → Type 0
AllFit ps xs = AllByRecursion (Fits ps xs)

abbrev pub IsPlain : Rel → Type 0
IsPlain NonNegative = Unit {0}
IsPlain Zero = Unit {0}
IsPlain (Divides m) = ⊥

-- a comparison of a form that fits, and no test of a divisor
pub record FitsPart (ps xs : ℕ) (c : Comparison) : Type 0 where
  pub form : Fits ps xs c.form
  pub rel : IsPlain c.rel

abbrev pub FitParts : ℕ → ℕ → List Comparison → Type 0
FitParts ps xs = AllByRecursion (FitsPart ps xs)

-- each index expression of a value
unfoldable mutual
  pub FitsValue : ℕ → ℕ → Value → Type 0
  FitsValue ps xs (Number e) = FitsForm ps xs e
  FitsValue ps xs (Access array subs place) = FormsFit ps xs subs
  FitsValue ps xs (Call' symbol n args place) = FitValues ps xs args

  pub FitValues : ℕ → ℕ → {m : _} → Row_of-Value m → Type 0
  FitValues ps xs end_of-Value = Unit {0}
  FitValues ps xs (more_of-Value v rest) = FitsValue ps xs v × FitValues ps xs rest

-- a statement inside xs loops
unfoldable mutual
  pub Ready : ℕ → ℕ → Stmt → Type 0
  Ready ps xs (For' iter start cond step n body place) =
      FitsForm ps xs start × FitTests ps (xs + 1) cond.parts × AllByRecursion (IsSteady xs) cond.parts × Bounded xs step cond × ReadyIn ps (xs + 1) body
  Ready ps xs (If' cond n taken m other place) = FitTests ps xs cond.parts × ReadyIn ps xs taken × ReadyIn ps xs other × (0 < length cond.parts)
  Ready ps xs (Assign array subs value place) = FormsFit ps xs subs × FitsValue ps xs value

  pub ReadyIn : ℕ → ℕ → {m : _} → Row_of-Stmt m → Type 0
  ReadyIn ps xs end_of-Stmt = Unit {0}
  ReadyIn ps xs (more_of-Stmt s rest) = Ready ps xs s × ReadyIn ps xs rest

abbrev pub ReadyAll : ℕ → ℕ → List Stmt → Type 0
ReadyAll ps xs = AllByRecursion (Ready ps xs)

-- extents and contexts are over the parameters alone and plain
pub record ReadyProgram (p : Program) : Type 0 where
  pub body : ReadyAll (length p.params) 0 p.body
  pub context : FitParts (length p.params) 0 p.context.parts
  pub extents : AllByRecursion (λ (a : Array). AllFit (length p.params) 0 a.extents) p.arrays
