-- Programs whose numbers have an absolute value of at most 2^31 and whose divisors are at least 1, with at most 4 parameters and
-- 6 loops around a statement.
use Rattle.std.specs.Prelude.{◌≤◌, ◌^◌, ℤ, pos, ◌≤ℤ◌, List, length, unsigned_abs}
use Rattle.std.specs.List.{AllByRecursion}
use Rattle.ac_syntax.specs.declared.tree.Quot.{Quot}
use Rattle.ac_syntax.specs.declared.tree.IndexExpr.{IndexExpr}
use Rattle.ac_syntax.specs.declared.tree.Rel.{Rel}
use Rattle.ac_syntax.specs.declared.tree.Rel.TheVariants.{NonNegative, Zero, Divides}
use Rattle.ac_syntax.specs.declared.tree.Comparison.{Comparison}
use Rattle.ac_syntax.specs.declared.tree.Array.{Array}
use Rattle.ac_syntax.specs.declared.tree.Program.{Program}
use Rattle.ac_syntax.specs.declared.tree.Pair.{Pair}
use Rattle.ac_syntax.specs.declared.tree.Value.{Value, Row_of-Value, end_of-Value, more_of-Value}
use Rattle.ac_syntax.specs.declared.tree.Value.TheVariants.{Number, Access, Call'}
use Rattle.ac_syntax.specs.declared.tree.Stmt.{Stmt, Row_of-Stmt, end_of-Stmt, more_of-Stmt}
use Rattle.ac_syntax.specs.declared.tree.Stmt.TheVariants.{For', If', Assign}

abbrev pub IsSmall : ℤ → Type 0
IsSmall z = unsigned_abs z ≤ 2 ^ 31

pub record IsSmallQuot (q : Quot) : Type 0 where
  pub coef : IsSmall q.coef
  pub constant : IsSmall q.konst
  pub params : AllByRecursion IsSmall q.params
  pub iters : AllByRecursion IsSmall q.iters
  pub few_params : length q.params ≤ 4
  pub few_iters : length q.iters ≤ 6
  pub positive : pos 1 ≤ℤ q.div
  pub divisor : IsSmall q.div

pub record IsSmallForm (e : IndexExpr) : Type 0 where
  pub constant : IsSmall e.konst
  pub params : AllByRecursion IsSmall e.params
  pub iters : AllByRecursion IsSmall e.iters
  pub few_params : length e.params ≤ 4
  pub few_iters : length e.iters ≤ 6
  pub quots : AllByRecursion IsSmallQuot e.quots
  pub few_quots : length e.quots ≤ 2 ^ 16

abbrev pub AreSmallForms : List IndexExpr → Type 0
AreSmallForms = AllByRecursion IsSmallForm

abbrev pub IsSmallRel : Rel → Type 0
IsSmallRel NonNegative = Unit {0}
IsSmallRel Zero = Unit {0}
IsSmallRel (Divides m) = (pos 1 ≤ℤ m) × IsSmall m

pub record IsSmallPart (c : Comparison) : Type 0 where
  pub form : IsSmallForm c.form
  pub rel : IsSmallRel c.rel

abbrev pub AreSmallParts : List Comparison → Type 0
AreSmallParts = AllByRecursion IsSmallPart

-- each index expression of a value
unfoldable mutual
  pub IsSmallValue : Value → Type 0
  IsSmallValue (Number e) = IsSmallForm e
  IsSmallValue (Access array subs place) = AreSmallForms subs
  IsSmallValue (Call' symbol n args place) = AreSmallValues args

  pub AreSmallValues : {m : _} → Row_of-Value m → Type 0
  AreSmallValues end_of-Value = Unit {0}
  AreSmallValues (more_of-Value v rest) = IsSmallValue v × AreSmallValues rest

-- each index expression of a statement
unfoldable mutual
  pub IsSmallStmt : Stmt → Type 0
  IsSmallStmt (For' iter start cond step n body place) = IsSmallForm start × AreSmallParts cond.parts × AreSmallStmts body
  IsSmallStmt (If' cond n taken m other place) = AreSmallParts cond.parts × AreSmallStmts taken × AreSmallStmts other
  IsSmallStmt (Assign array subs value place) = AreSmallForms subs × IsSmallValue value

  pub AreSmallStmts : {m : _} → Row_of-Stmt m → Type 0
  AreSmallStmts end_of-Stmt = Unit {0}
  AreSmallStmts (more_of-Stmt s rest) = IsSmallStmt s × AreSmallStmts rest

pub record IsSmallProgram (p : Program) : Type 0 where
  pub body : AllByRecursion IsSmallStmt p.body
  pub context : AreSmallParts p.context.parts
  pub extents : AllByRecursion (λ (a : Array). AreSmallForms a.extents) p.arrays

pub record IsSmallPair (pair : Pair) : Type 0 where
  pub left : IsSmallProgram pair.left
  pub right : IsSmallProgram pair.right
  pub context : AreSmallParts pair.context.parts
