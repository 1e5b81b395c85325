-- The assignments of a text and the nodes of their values, part by part.
use Rattle.std.proofs.Common.{◌≡◌, ℕ, ◌+◌, ℤ, List, [], ◌∷◌, ◌++◌, Option, Some, None, refl, rules, ap, sym, ◌∙◌, append_assoc, append-nil}
use Rattle.std.specs.List.{flat_map}
use Rattle.ac_syntax.specs.declared.tree.Cond.{Cond}
use Rattle.ac_syntax.specs.declared.tree.IndexExpr.{IndexExpr}
use Rattle.ac_syntax.specs.declared.tree.Place.{Place}
use Rattle.ac_syntax.specs.declared.tree.Symbol.{Symbol}
use Rattle.ac_syntax.specs.declared.tree.Stmt.{Stmt, Row_of-Stmt, end_of-Stmt, more_of-Stmt, items-the_row-Stmt}
use Rattle.ac_syntax.specs.declared.tree.Stmt as stmt
use Rattle.ac_syntax.specs.declared.tree.Stmt.TheVariants.{For, If, Assign}
use Rattle.ac_syntax.specs.declared.tree.Value.{Value, Row_of-Value, end_of-Value, more_of-Value, items-the_row-Value}
use Rattle.ac_syntax.specs.declared.tree.Value as value
use Rattle.ac_syntax.specs.declared.tree.Value.TheVariants.{Number, Access, Call}
use Rattle.ac_report.specs.declared.layout.Assignment.{Assignment}
use Rattle.ac_report.specs.Layouts.{reads_of, reads_of_arguments, one_more, assignments_of, assignments_of_body}

value_row : (m : _) (k : Row_of-Value m) → reads_of_arguments k ≡ flat_map reads_of (items-the_row-Value m k)
unfolding reads_of
value_row m end_of-Value = refl
value_row m (more_of-Value {n = n} v rest) = ap (λ k. reads_of v ++ k) (value_row n rest)

pub value_number : (e : IndexExpr) → reads_of (Number e) ≡ None ∷ []
unfolding reads_of
value_number e = refl

pub value_access : (a : ℕ) (s : List IndexExpr) (p : Place) → reads_of (Access a s p) ≡ Some a ∷ []
unfolding reads_of
value_access a s p = refl

pub value_call : (s : Symbol) (args : List Value) (p : Place) → reads_of (Call s args p) ≡ None ∷ flat_map reads_of args
unfolding reads_of
value_call s args p = search (rules, value.the_lemmas, value_row)

stmt_row : (loops m : _) (k : Row_of-Stmt m) → assignments_of_body loops k ≡ flat_map (assignments_of loops) (items-the_row-Stmt m k)
unfolding assignments_of
stmt_row loops m end_of-Stmt = refl
stmt_row loops m (more_of-Stmt {n = n} s rest) = ap (λ k. assignments_of loops s ++ k) (stmt_row loops n rest)

pub statement_for : (loops : ℕ) (iter : List ℕ) (start : IndexExpr) (cond : Cond) (step : ℤ) (body : List Stmt) (place : Place) → assignments_of loops (For iter start cond step body place) ≡ flat_map (assignments_of (one_more loops)) body
unfolding assignments_of
statement_for loops iter start cond step body place = search (rules, stmt.the_lemmas, stmt_row)

pub statement_if : (loops : ℕ) (cond : Cond) (taken other : List Stmt) (place : Place) → assignments_of loops (If cond taken other place) ≡ flat_map (assignments_of loops) taken ++ flat_map (assignments_of loops) other
unfolding assignments_of
statement_if loops cond taken other place = search (rules, stmt.the_lemmas, stmt_row)

pub statement_assign : (loops array : ℕ) (subs : List IndexExpr) (value : Value) (place : Place) → assignments_of loops (Assign array subs value place) ≡ record { loops = loops; reads = reads_of value } ∷ []
unfolding assignments_of
statement_assign loops array subs value place = refl

pub ruleset joins = (append_assoc, append-nil)

pub ruleset value_steps = (value_number, value_access, value_call, append_assoc)

pub ruleset statement_steps = (statement_for, statement_if, statement_assign, append_assoc)
