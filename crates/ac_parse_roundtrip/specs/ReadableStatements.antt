-- Values and statements whose canonical text the rules read back: each name of the text stands for what the program has there.
use Rattle.std.specs.Prelude.{◌≡◌, ◌≤◌, ℕ, ℤ, min, Bool, true, false, not, ◌||◌, List, length, slice_get}
use Rattle.std.specs.List.{list_any}
use Rattle.ac_syntax.specs.declared.tree.Cond.{Cond}
use Rattle.ac_syntax.specs.declared.tree.Symbol.{Symbol}
use Rattle.ac_syntax.specs.declared.tree.Value.{Value, Row_of-Value, end_of-Value, more_of-Value}
use Rattle.ac_syntax.specs.declared.tree.Value.TheVariants.{Number, Access, Call'}
use Rattle.ac_syntax.specs.declared.tree.Stmt.{Stmt, Row_of-Stmt, end_of-Stmt, more_of-Stmt}
use Rattle.ac_syntax.specs.declared.tree.Stmt.TheVariants.{For', If', Assign}
use Rattle.ac_syntax.specs.ValueNodes.{size}
use Rattle.ac_syntax.specs.Small.{IsSmall}
use Rattle.ac_syntax.specs.Turns.{bounds}
use Rattle.ac_syntax.specs.Text.{is_other_than_zero, array_name, is_operator, is_decimal}
use Rattle.ac_syntax.specs.Text as text
use Rattle.ac_parse_exprs.specs.declared.scope.Meaning.TheVariants.{Array, Nothing}
use Rattle.ac_parse_exprs.specs.declared.scope.Entry.{Entry}
use Rattle.ac_parse_exprs.specs.declared.scope.Scope.{Scope}
use Rattle.ac_parse_rules.specs.Declarations.{is_declared}
use Rattle.ac_parse_rules.specs.Statements.{inside, in_test, in_start, is_running}
use Rattle.ac_parse_roundtrip.specs.GrammarPrograms.{count}
use Rattle.ac_parse_roundtrip.specs.ColumnNames.{Stands, FitsScope, FitScope, PartsFitScope}

-- the name of the array with this number stands for it, and it has so many dimensions
abbrev pub ArrayStands : List Entry → Scope → text.Scope → ℕ → ℕ → Type 0
ArrayStands names scope written number dimensions = Stands names scope (array_name (slice_get written.arrays number)) (Array number dimensions)

abbrev pub is_number : Value → Bool
is_number (Number e) = true
is_number (Access array subs place) = false
is_number (Call' symbol n args place) = false

abbrev pub some_other : {m : _} → Row_of-Value m → Bool
some_other end_of-Value = false
some_other (more_of-Value v rest) = not (is_number v) || some_other rest

-- a symbol of so many arguments: an operator of numbers alone would be a number, and the name of a function is not declared
pub record FitsCall (names : List Entry) (scope : Scope) (symbol : Symbol) (arguments : ℕ) (other : Bool) : Type 0 where
  pub arity : symbol.arity ≡ min arguments 255
  pub operator : is_operator symbol.name ≡ true → other ≡ true
  pub function : is_operator symbol.name ≡ false → is_decimal symbol.name ≡ false → Stands names scope symbol.name Nothing

unfoldable mutual
  pub IsReadable : List Entry → Scope → text.Scope → Value → Type 0
  IsReadable names scope written (Number e) = FitsScope names scope written e
  IsReadable names scope written (Access array subs place) = ArrayStands names scope written array (length subs) × FitScope names scope written subs
  IsReadable names scope written (Call' symbol n args place) = FitsCall names scope symbol (count args) (some_other args) × AreReadable names scope written args

  pub AreReadable : List Entry → Scope → text.Scope → {m : _} → Row_of-Value m → Type 0
  AreReadable names scope written end_of-Value = Unit {0}
  AreReadable names scope written (more_of-Value v rest) = IsReadable names scope written v × AreReadable names scope written rest

-- a loop: at most 5 are around it, its name is new, its step is small and other than 0, and a comparison of its condition ends it
pub record FitsLoop (names : List Entry) (scope : Scope) (iter : List ℕ) (cond : Cond) (step : ℤ) : Type 0 where
  pub few : length scope.iterators ≤ 5
  pub new : (is_declared names iter || is_running scope iter) ≡ false
  pub steps : is_other_than_zero step ≡ true
  pub small : IsSmall step
  pub ends : list_any (bounds step) cond.parts ≡ true

unfoldable mutual
  pub IsReadableStmt : List Entry → Scope → text.Scope → Stmt → Type 0
  IsReadableStmt names scope written (For' iter start cond step n body place) =
      FitsLoop names scope iter cond step × FitsScope names (in_start scope true iter) written start × PartsFitScope names (in_test scope iter) (text.inside written iter) cond.parts
      × AreReadableStmts names (inside scope iter) (text.inside written iter) body
  IsReadableStmt names scope written (If' cond n taken m other place) =
      PartsFitScope names scope written cond.parts × AreReadableStmts names scope written taken × AreReadableStmts names scope written other
  IsReadableStmt names scope written (Assign array subs v place) =
      ArrayStands names scope written array (length subs) × FitScope names scope written subs × IsReadable names scope written v × (size v ≤ 64)

  pub AreReadableStmts : List Entry → Scope → text.Scope → {m : _} → Row_of-Stmt m → Type 0
  AreReadableStmts names scope written end_of-Stmt = Unit {0}
  AreReadableStmts names scope written (more_of-Stmt s rest) = IsReadableStmt names scope written s × AreReadableStmts names scope written rest
