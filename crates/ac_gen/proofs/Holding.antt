-- What holds of the parts of a statement holds of it.
use Rattle.std.proofs.Common.{ℕ, ℤ, List, rules}
use Rattle.std.specs.List.{AllByRecursion}
use Rattle.ac_syntax.specs.Dimensions.{IsCellOf, UsesCells, EachUsesCells, ReadsCells, EachReadsCells}
use Rattle.ac_syntax.specs.Small.{IsSmallForm, AreSmallForms, AreSmallParts, IsSmallStmt, AreSmallStmts, IsSmallValue, AreSmallValues}
use Rattle.ac_syntax.specs.declared.tree.Array.{Array}
use Rattle.ac_syntax.specs.declared.tree.Cond.{Cond}
use Rattle.ac_syntax.specs.declared.tree.IndexExpr.{IndexExpr}
use Rattle.ac_syntax.specs.declared.tree.Place.{Place}
use Rattle.ac_syntax.specs.declared.tree.Symbol.{Symbol}
use Rattle.ac_syntax.specs.declared.tree.Value.{Value, Row_of-Value, end_of-Value, more_of-Value, items-the_row-Value, the_lemmas as value_lemmas}
use Rattle.ac_syntax.specs.declared.tree.Value.TheVariants.{Access, Call, Call'}
use Rattle.ac_syntax.specs.declared.tree.Stmt.{Stmt, Row_of-Stmt, end_of-Stmt, more_of-Stmt, items-the_row-Stmt, the_lemmas}
use Rattle.ac_syntax.specs.declared.tree.Stmt.TheVariants.{For, For', Assign}

-- ---- small numbers

small_row : (m : _) (k : Row_of-Stmt m) → AllByRecursion IsSmallStmt (items-the_row-Stmt m k) → AreSmallStmts k
unfolding IsSmallStmt
small_row m end_of-Stmt h = tt
small_row m (more_of-Stmt {n = n} s rest) h = (h.0, small_row n rest h.1)

small_for_row : (iter : List ℕ) (start : IndexExpr) (cond : Cond) (step : ℤ) (n : _) (body : Row_of-Stmt _) (place : Place)
    → IsSmallForm start → AreSmallParts cond.parts → AllByRecursion IsSmallStmt (items-the_row-Stmt _ body) → IsSmallStmt (For' iter start cond step n body place)
unfolding IsSmallStmt
small_for_row iter start cond step n body place h k r = (h, k, small_row _ body r)

pub small_for : (iter : List ℕ) (start : IndexExpr) (cond : Cond) (step : ℤ) (body : List Stmt) (place : Place)
    → IsSmallForm start → AreSmallParts cond.parts → AllByRecursion IsSmallStmt body → IsSmallStmt (For iter start cond step body place)
small_for iter start cond step body place h k r = search (rules, the_lemmas, small_for_row, h, k, r)

pub small_assign : (array : ℕ) (subs : List IndexExpr) (value : Value) (place : Place) → AreSmallForms subs → IsSmallValue value → IsSmallStmt (Assign array subs value place)
unfolding IsSmallStmt
small_assign array subs value place h k = (h, k)

small_values : (m : _) (k : Row_of-Value m) → AllByRecursion IsSmallValue (items-the_row-Value m k) → AreSmallValues k
unfolding IsSmallValue
small_values m end_of-Value h = tt
small_values m (more_of-Value {n = n} v rest) h = (h.0, small_values n rest h.1)

small_call_row : (s : Symbol) (n : _) (args : Row_of-Value _) (place : Place) → AllByRecursion IsSmallValue (items-the_row-Value _ args) → IsSmallValue (Call' s n args place)
unfolding IsSmallValue
small_call_row s n args place h = small_values _ args h

pub small_call : (s : Symbol) (args : List Value) (place : Place) → AllByRecursion IsSmallValue args → IsSmallValue (Call s args place)
small_call s args place h = search (rules, value_lemmas, small_call_row, h)

pub small_access : (array : ℕ) (subs : List IndexExpr) (place : Place) → AreSmallForms subs → IsSmallValue (Access array subs place)
unfolding IsSmallValue
small_access array subs place h = h

-- ---- cells

module _ (arrays : List Array) where
  cells_row : (m : _) (k : Row_of-Stmt m) → AllByRecursion (UsesCells arrays) (items-the_row-Stmt m k) → EachUsesCells arrays k
  unfolding UsesCells
  cells_row m end_of-Stmt h = tt
  cells_row m (more_of-Stmt {n = n} s rest) h = (h.0, cells_row n rest h.1)

  cells_for_row : (iter : List ℕ) (start : IndexExpr) (cond : Cond) (step : ℤ) (n : _) (body : Row_of-Stmt _) (place : Place)
      → AllByRecursion (UsesCells arrays) (items-the_row-Stmt _ body) → UsesCells arrays (For' iter start cond step n body place)
  unfolding UsesCells
  cells_for_row iter start cond step n body place r = cells_row _ body r

  pub cells_for : (iter : List ℕ) (start : IndexExpr) (cond : Cond) (step : ℤ) (body : List Stmt) (place : Place)
      → AllByRecursion (UsesCells arrays) body → UsesCells arrays (For iter start cond step body place)
  cells_for iter start cond step body place r = search (rules, the_lemmas, cells_for_row, r)

  pub cells_assign : (array : ℕ) (subs : List IndexExpr) (value : Value) (place : Place) → IsCellOf arrays array subs → ReadsCells arrays value → UsesCells arrays (Assign array subs value place)
  unfolding UsesCells
  cells_assign array subs value place h k = (h, k)

  cells_values : (m : _) (k : Row_of-Value m) → AllByRecursion (ReadsCells arrays) (items-the_row-Value m k) → EachReadsCells arrays k
  unfolding ReadsCells
  cells_values m end_of-Value h = tt
  cells_values m (more_of-Value {n = n} v rest) h = (h.0, cells_values n rest h.1)

  cells_call_row : (s : Symbol) (n : _) (args : Row_of-Value _) (place : Place) → AllByRecursion (ReadsCells arrays) (items-the_row-Value _ args) → ReadsCells arrays (Call' s n args place)
  unfolding ReadsCells
  cells_call_row s n args place h = cells_values _ args h

  pub cells_call : (s : Symbol) (args : List Value) (place : Place) → AllByRecursion (ReadsCells arrays) args → ReadsCells arrays (Call s args place)
  cells_call s args place h = search (rules, value_lemmas, cells_call_row, h)

  pub cells_access : (array : ℕ) (subs : List IndexExpr) (place : Place) → IsCellOf arrays array subs → ReadsCells arrays (Access array subs place)
  unfolding ReadsCells
  cells_access array subs place h = h
