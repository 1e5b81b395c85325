-- Programs in which each cell has an index expression for each dimension of its array.
use Rattle.std.specs.Prelude.{ℕ, ◌≡◌, List, length, Some, slice_get}
use Rattle.std.specs.List.{AllByRecursion}
use Rattle.ac_syntax.specs.declared.tree.Array.{Array}
use Rattle.ac_syntax.specs.declared.tree.IndexExpr.{IndexExpr}
use Rattle.ac_syntax.specs.declared.tree.Program.{Program}
use Rattle.ac_syntax.specs.declared.tree.Value.{Value, Row_of-Value, end_of-Value, more_of-Value}
use Rattle.ac_syntax.specs.declared.tree.Value.TheVariants.{Number, Access, Call'}
use Rattle.ac_syntax.specs.declared.tree.Stmt.{Stmt, Row_of-Stmt, end_of-Stmt, more_of-Stmt}
use Rattle.ac_syntax.specs.declared.tree.Stmt.TheVariants.{For', If', Assign}

abbrev pub IsCellOf : List Array → ℕ → List IndexExpr → Type 0
IsCellOf arrays array subs = (own : Array) × (slice_get arrays array ≡ Some own) × (length subs ≡ length own.extents)

-- the cells that a value reads
unfoldable mutual
  pub ReadsCells : List Array → Value → Type 0
  ReadsCells arrays (Number e) = Unit {0}
  ReadsCells arrays (Access array subs place) = IsCellOf arrays array subs
  ReadsCells arrays (Call' symbol n args place) = EachReadsCells arrays args

  pub EachReadsCells : List Array → {m : _} → Row_of-Value m → Type 0
  EachReadsCells arrays end_of-Value = Unit {0}
  EachReadsCells arrays (more_of-Value v rest) = ReadsCells arrays v × EachReadsCells arrays rest

-- the cells that a statement reads and assigns
unfoldable mutual
  pub UsesCells : List Array → Stmt → Type 0
  UsesCells arrays (For' iter start cond step n body place) = EachUsesCells arrays body
  UsesCells arrays (If' cond n taken m other place) = EachUsesCells arrays taken × EachUsesCells arrays other
  UsesCells arrays (Assign array subs value place) = IsCellOf arrays array subs × ReadsCells arrays value

  pub EachUsesCells : List Array → {m : _} → Row_of-Stmt m → Type 0
  EachUsesCells arrays end_of-Stmt = Unit {0}
  EachUsesCells arrays (more_of-Stmt s rest) = UsesCells arrays s × EachUsesCells arrays rest

abbrev pub HasDimensions : Program → Type 0
HasDimensions p = AllByRecursion (UsesCells p.arrays) p.body
