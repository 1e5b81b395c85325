-- Programs of differences: loops from a constant on in steps of 1, conditions that compare two variables, and subscripts and
-- extents of one variable, each with a number of at most 2^31 by its absolute value. They have no quotients, and test no divisor.
use Rattle.std.specs.Prelude.{◌≡◌, ℕ, ◌+◌, ◌<◌, ◌≤◌, ◌^◌, ℤ, pos, ◌-ℤ◌, unsigned_abs, true, List, [], length, Some, slice_index_or}
use Rattle.std.specs.List.{AllByRecursion}
use Rattle.ac_syntax.specs.Outputs.{is_input_kind}
use Rattle.ac_syntax.specs.ReadyPrograms.{IsPlain}
use Rattle.ac_syntax.specs.Small.{AreSmallForms}
use Rattle.ac_syntax.specs.declared.tree.Array.{Array}
use Rattle.ac_syntax.specs.declared.tree.Comparison.{Comparison}
use Rattle.ac_syntax.specs.declared.tree.Cond.{Cond}
use Rattle.ac_syntax.specs.declared.tree.IndexExpr.{IndexExpr}
use Rattle.ac_syntax.specs.declared.tree.Program.{Program}
use Rattle.ac_syntax.specs.declared.tree.Stmt.{Stmt, Row_of-Stmt, end_of-Stmt, more_of-Stmt}
use Rattle.ac_syntax.specs.declared.tree.Stmt.TheVariants.{For', If', Assign}
use Rattle.ac_syntax.specs.declared.tree.Value.{Value, Row_of-Value, end_of-Value, more_of-Value}
use Rattle.ac_syntax.specs.declared.tree.Value.TheVariants.{Number, Access, Call'}
use Rattle.ac_omega.specs.DifferenceRows.{one_in}

-- a parameter, the iterator of a loop, the outermost one first, or 0
pub data Variable : Type 0 where
  Parameter : ℕ → Variable
  Iterator : ℕ → Variable
  Zero : Variable

-- its coefficients of the parameters, and of the iterators
abbrev pub parameter_in : Variable → ℕ → ℤ
parameter_in (Parameter k) j = one_in (Some k) j
parameter_in (Iterator k) j = pos 0
parameter_in Zero j = pos 0

abbrev pub iterator_in : Variable → ℕ → ℤ
iterator_in (Parameter k) j = pos 0
iterator_in (Iterator k) j = one_in (Some k) j
iterator_in Zero j = pos 0

-- `x - y + c`
pub record IsDifferenceExpr (e : IndexExpr) : Type 0 where
  pub plus : Variable
  pub minus : Variable
  pub params : (j : ℕ) → slice_index_or e.params j (pos 0) ≡ parameter_in plus j -ℤ parameter_in minus j
  pub iters : (j : ℕ) → slice_index_or e.iters j (pos 0) ≡ iterator_in plus j -ℤ iterator_in minus j
  pub small : unsigned_abs e.konst ≤ 2 ^ 31
  pub plain : e.quots ≡ []

-- `x + c`
pub record IsVariableExpr (e : IndexExpr) : Type 0 where
  pub variable : Variable
  pub params : (j : ℕ) → slice_index_or e.params j (pos 0) ≡ parameter_in variable j
  pub iters : (j : ℕ) → slice_index_or e.iters j (pos 0) ≡ iterator_in variable j
  pub small : unsigned_abs e.konst ≤ 2 ^ 31
  pub plain : e.quots ≡ []

-- `c`
pub record IsConstantExpr (e : IndexExpr) : Type 0 where
  pub params : (j : ℕ) → slice_index_or e.params j (pos 0) ≡ pos 0
  pub iters : (j : ℕ) → slice_index_or e.iters j (pos 0) ≡ pos 0
  pub small : unsigned_abs e.konst ≤ 2 ^ 31
  pub plain : e.quots ≡ []

-- `x - y + c` compared with 0
pub record IsDifferencePart (c : Comparison) : Type 0 where
  pub form : IsDifferenceExpr c.form
  pub rel : IsPlain c.rel

abbrev pub AreDifferenceParts : List Comparison → Type 0
AreDifferenceParts parts = AllByRecursion IsDifferencePart parts

abbrev pub AreVariableExprs : List IndexExpr → Type 0
AreVariableExprs es = AllByRecursion IsVariableExpr es

-- a value whose numbers have no quotients, and whose reads have such subscripts
unfoldable mutual
  pub ValueIsOfDifferences : Value → Type 0
  ValueIsOfDifferences (Number e) = e.quots ≡ []
  ValueIsOfDifferences (Access array subs place) = AreVariableExprs subs
  ValueIsOfDifferences (Call' symbol n args place) = ValuesAreOfDifferences args

  pub ValuesAreOfDifferences : {m : _} → Row_of-Value m → Type 0
  ValuesAreOfDifferences end_of-Value = Unit {0}
  ValuesAreOfDifferences (more_of-Value v rest) = ValueIsOfDifferences v × ValuesAreOfDifferences rest

-- a statement inside xs loops, of which there are at most 6
unfoldable mutual
  pub StmtIsOfDifferences : ℕ → Stmt → Type 0
  StmtIsOfDifferences xs (For' iter start cond step n body place) = (xs < 6) × IsConstantExpr start × AreDifferenceParts cond.parts × (step ≡ pos 1) × StmtsAreOfDifferences (xs + 1) body
  StmtIsOfDifferences xs (If' cond n taken m other place) = AreDifferenceParts cond.parts × StmtsAreOfDifferences xs taken × StmtsAreOfDifferences xs other
  StmtIsOfDifferences xs (Assign array subs value place) = AreVariableExprs subs × ValueIsOfDifferences value

  pub StmtsAreOfDifferences : ℕ → {m : _} → Row_of-Stmt m → Type 0
  StmtsAreOfDifferences xs end_of-Stmt = Unit {0}
  StmtsAreOfDifferences xs (more_of-Stmt s rest) = StmtIsOfDifferences xs s × StmtsAreOfDifferences xs rest

-- the extents of an array parameter, at most 6; those of a local array only have numbers of at most 2^31
pub record ArrayIsOfDifferences (a : Array) : Type 0 where
  pub parameter : is_input_kind a.kind ≡ true → (length a.extents ≤ 6) × AreVariableExprs a.extents
  pub small : AreSmallForms a.extents

-- a program over at most 4 parameters, under a context
pub record IsOfDifferences (p : Program) (given : Cond) : Type 0 where
  pub parameters : length p.params ≤ 4
  pub context : AreDifferenceParts given.parts
  pub body : AllByRecursion (StmtIsOfDifferences 0) p.body
  pub arrays : AllByRecursion ArrayIsOfDifferences p.arrays
