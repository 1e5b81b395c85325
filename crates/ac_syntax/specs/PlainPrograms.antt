-- Programs without a quotient and without a test of a divisor in their statements.
use Rattle.std.specs.Prelude.{List, [], ◌≡◌}
use Rattle.std.specs.List.{AllByRecursion}
use Rattle.ac_syntax.specs.ReadyPrograms.{IsPlain}
use Rattle.ac_syntax.specs.declared.tree.IndexExpr.{IndexExpr}
use Rattle.ac_syntax.specs.declared.tree.Comparison.{Comparison}
use Rattle.ac_syntax.specs.declared.tree.Program.{Program}
use Rattle.ac_syntax.specs.declared.tree.Value.{Value, Row_of-Value, end_of-Value, more_of-Value}
use Rattle.ac_syntax.specs.declared.tree.Value.TheVariants.{Number, Access, Call'}
use Rattle.ac_syntax.specs.declared.tree.Stmt.{Stmt, Row_of-Stmt, end_of-Stmt, more_of-Stmt}
use Rattle.ac_syntax.specs.declared.tree.Stmt.TheVariants.{For', If', Assign}

abbrev pub IsPlainForm : IndexExpr → Type 0
IsPlainForm e = e.quots ≡ []

pub record IsPlainPart (c : Comparison) : Type 0 where
  pub form : IsPlainForm c.form
  pub rel : IsPlain c.rel

unfoldable mutual
  pub IsPlainValue : Value → Type 0
  IsPlainValue (Number e) = IsPlainForm e
  IsPlainValue (Access array subs place) = AllByRecursion IsPlainForm subs
  IsPlainValue (Call' symbol n args place) = ArePlainValues args

  pub ArePlainValues : {m : _} → Row_of-Value m → Type 0
  ArePlainValues end_of-Value = Unit {0}
  ArePlainValues (more_of-Value v rest) = IsPlainValue v × ArePlainValues rest

unfoldable mutual
  pub IsPlainStmt : Stmt → Type 0
  IsPlainStmt (For' iter start cond step n body place) = IsPlainForm start × AllByRecursion IsPlainPart cond.parts × ArePlainStmts body
  IsPlainStmt (If' cond n taken m other place) = AllByRecursion IsPlainPart cond.parts × ArePlainStmts taken × ArePlainStmts other
  IsPlainStmt (Assign array subs value place) = AllByRecursion IsPlainForm subs × IsPlainValue value

  pub ArePlainStmts : {m : _} → Row_of-Stmt m → Type 0
  ArePlainStmts end_of-Stmt = Unit {0}
  ArePlainStmts (more_of-Stmt s rest) = IsPlainStmt s × ArePlainStmts rest

abbrev pub PlainProgram : Program → Type 0
PlainProgram p = AllByRecursion IsPlainStmt p.body
