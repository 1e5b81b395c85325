-- Statements in which each call has as many arguments as its symbol says.
use Rattle.std.specs.Prelude.{ℕ, ◌+◌, ◌≡◌, List}
use Rattle.std.specs.List.{AllByRecursion}
use Rattle.ac_syntax.specs.declared.tree.Value.{Value, Row_of-Value, end_of-Value, more_of-Value}
use Rattle.ac_syntax.specs.declared.tree.Value.TheVariants.{Number, Access, Call'}
use Rattle.ac_syntax.specs.declared.tree.Stmt.{Stmt, Row_of-Stmt, end_of-Stmt, more_of-Stmt}
use Rattle.ac_syntax.specs.declared.tree.Stmt.TheVariants.{For', If', Assign}

-- how many arguments
unfoldable pub count : {m : _} → Row_of-Value m → ℕ
count end_of-Value = 0
count (more_of-Value v rest) = count rest + 1

-- the calls of a value
unfoldable mutual
  pub HasArities : Value → Type 0
  HasArities (Number e) = Unit {0}
  HasArities (Access array subs place) = Unit {0}
  HasArities (Call' symbol n args place) = (count args ≡ symbol.arity) × EachHasArities args

  pub EachHasArities : {m : _} → Row_of-Value m → Type 0
  EachHasArities end_of-Value = Unit {0}
  EachHasArities (more_of-Value v rest) = HasArities v × EachHasArities rest

-- the calls of the values that a statement assigns
unfoldable mutual
  pub AssignsArities : Stmt → Type 0
  AssignsArities (For' iter start cond step n body place) = EachAssignsArities body
  AssignsArities (If' cond n taken m other place) = EachAssignsArities taken × EachAssignsArities other
  AssignsArities (Assign array subs value place) = HasArities value

  pub EachAssignsArities : {m : _} → Row_of-Stmt m → Type 0
  EachAssignsArities end_of-Stmt = Unit {0}
  EachAssignsArities (more_of-Stmt s rest) = AssignsArities s × EachAssignsArities rest

abbrev pub AllHaveArities : List Stmt → Type 0
AllHaveArities = AllByRecursion AssignsArities
