-- Programs with names that are words, with numbers of 64 bits, and whose numbers of arrays and parameters stand for some.
use Rattle.std.specs.Prelude.{◌≡◌, ◌≤◌, ◌<◌, ◌^◌, ℕ, suc, true, ℤ, List, [], ◌∷◌, length, codes, unsigned_abs, IfSome}
use Rattle.std.specs.List.{AllByRecursion}
use Rattle.ac_syntax.specs.declared.tree.Quot.{Quot}
use Rattle.ac_syntax.specs.declared.tree.IndexExpr.{IndexExpr}
use Rattle.ac_syntax.specs.declared.tree.Rel.{Rel}
use Rattle.ac_syntax.specs.declared.tree.Rel.TheVariants.{NonNegative, Zero, Divides}
use Rattle.ac_syntax.specs.declared.tree.Comparison.{Comparison}
use Rattle.ac_syntax.specs.declared.tree.Array.{Array}
use Rattle.ac_syntax.specs.declared.tree.Slot.{Slot}
use Rattle.ac_syntax.specs.declared.tree.Slot.TheVariants as slot
use Rattle.ac_syntax.specs.declared.tree.Program.{Program}
use Rattle.ac_syntax.specs.declared.tree.Value.{Value, Row_of-Value, end_of-Value, more_of-Value}
use Rattle.ac_syntax.specs.declared.tree.Value.TheVariants.{Number, Access, Call'}
use Rattle.ac_syntax.specs.declared.tree.Stmt.{Stmt, Row_of-Stmt, end_of-Stmt, more_of-Stmt}
use Rattle.ac_syntax.specs.declared.tree.Stmt.TheVariants.{For', If', Assign}
use Rattle.ac_lex.specs.Bytes.{is_one_of}
use Rattle.ac_lex.specs.Numerals.{IsDecimal}
use Rattle.ac_lex.specs.TextPieces.{IsPiece, name}

-- 1 to 64 letters, digits and underscores, of which the first is no digit
pub record IsWord (text : List ℕ) : Type 0 where
  pub is : IsPiece name text
  pub short : length text ≤ 64

-- one of + - * / %
pub data IsOperator : List ℕ → Type 0 where
  sign : {b : ℕ} → is_one_of (codes "+-*/%") b ≡ true → IsOperator (b ∷ [])

-- a function of any arguments, a decimal constant without, an operator of two, or - of one
pub data IsSymbol (text : List ℕ) : ℕ → Type 0 where
  function : {n : ℕ} → IsWord text → IsSymbol text n
  constant : IsDecimal text → length text ≤ 64 → IsSymbol text 0
  binary : IsOperator text → IsSymbol text 2
  negation : text ≡ codes "-" → IsSymbol text 1

-- a function or an operator
pub data IsCommutative (text : List ℕ) : Type 0 where
  called : IsWord text → IsCommutative text
  operated : IsOperator text → IsCommutative text

abbrev pub Fits64 : ℤ → Type 0
Fits64 z = unsigned_abs z < 2 ^ 64

pub record IsWritableQuot (q : Quot) : Type 0 where
  pub coef : Fits64 q.coef
  pub constant : Fits64 q.konst
  pub params : AllByRecursion Fits64 q.params
  pub iters : AllByRecursion Fits64 q.iters
  pub div : Fits64 q.div

pub record IsWritable (e : IndexExpr) : Type 0 where
  pub constant : Fits64 e.konst
  pub params : AllByRecursion Fits64 e.params
  pub iters : AllByRecursion Fits64 e.iters
  pub quots : AllByRecursion IsWritableQuot e.quots

abbrev pub AreWritable : List IndexExpr → Type 0
AreWritable = AllByRecursion IsWritable

abbrev pub IsWritableRel : Rel → Type 0
IsWritableRel NonNegative = Unit {0}
IsWritableRel Zero = Unit {0}
IsWritableRel (Divides m) = Fits64 m

pub record IsWritablePart (c : Comparison) : Type 0 where
  pub form : IsWritable c.form
  pub rel : IsWritableRel c.rel

abbrev pub AreComparisons : List Comparison → Type 0
AreComparisons = AllByRecursion IsWritablePart

unfoldable pub argument_count : {m : _} → Row_of-Value m → ℕ
argument_count end_of-Value = 0
argument_count (more_of-Value v rest) = suc (argument_count rest)

-- each symbol and array of a value
unfoldable mutual
  pub HasValueWords : List Array → Value → Type 0
  HasValueWords arrays (Number e) = IsWritable e
  HasValueWords arrays (Access array subs place) = (array < length arrays) × AreWritable subs
  HasValueWords arrays (Call' symbol n args place) = IsSymbol symbol.name (argument_count args) × HaveValueWords arrays args

  pub HaveValueWords : List Array → {m : _} → Row_of-Value m → Type 0
  HaveValueWords arrays end_of-Value = Unit {0}
  HaveValueWords arrays (more_of-Value v rest) = HasValueWords arrays v × HaveValueWords arrays rest

-- each iterator, symbol and array of a statement
unfoldable mutual
  pub HasStmtWords : List Array → Stmt → Type 0
  HasStmtWords arrays (For' iter start c by n inner place) = IsWord iter × IsWritable start × AreComparisons c.parts × Fits64 by × HaveStmtWords arrays inner
  HasStmtWords arrays (If' c n taken m other place) = AreComparisons c.parts × HaveStmtWords arrays taken × HaveStmtWords arrays other
  HasStmtWords arrays (Assign array subs v place) = (array < length arrays) × AreWritable subs × HasValueWords arrays v

  pub HaveStmtWords : List Array → {m : _} → Row_of-Stmt m → Type 0
  HaveStmtWords arrays end_of-Stmt = Unit {0}
  HaveStmtWords arrays (more_of-Stmt s rest) = HasStmtWords arrays s × HaveStmtWords arrays rest

-- what is declared has a word for its name
pub record IsDeclared (a : Array) : Type 0 where
  pub name : IsWord a.name
  pub extents : AreWritable a.extents

-- the parameter or array of a place of the parameter list is there
abbrev pub IsThere : Program → Slot → Type 0
IsThere p (slot.Param k) = k < length p.params
IsThere p (slot.Array k) = k < length p.arrays

pub record HasWords (p : Program) : Type 0 where
  pub name : IsWord p.name
  pub params : AllByRecursion IsWord p.params
  pub arrays : AllByRecursion IsDeclared p.arrays
  pub slots : AllByRecursion (IsThere p) p.slots
  pub body : AllByRecursion (HasStmtWords p.arrays) p.body
  pub context : AreComparisons p.context.parts
  pub commutative : AllByRecursion IsCommutative p.commutative
  pub outputs : IfSome p.outputs (AllByRecursion (λ k. k < length p.arrays))
