-- The calls of an assignment that is executed are those of the text.
use Rattle.std.proofs.Common.{◌≡◌, ℕ, zero, suc, ◌+◌, ◌-◌, List, [], ◌∷◌, length, Bool, true, false, cond, Option, Some, sym, ◌∙◌, subst, rules}
use Rattle.std.specs.Prelude.{nat_lt}
use Rattle.ac_syntax.specs.AssignmentText.{Assigned, assigned, assigned_in, assigned_all, text_of}
use Rattle.ac_syntax.specs.Index.{point}
use Rattle.ac_syntax.specs.ValueNodes.{node_of, node_in, size}
use Rattle.ac_syntax.specs.Trace.{assignments, assignments_in}
use Rattle.ac_syntax.specs.declared.tree.Place.{Place}
use Rattle.ac_syntax.specs.declared.tree.Symbol.{Symbol}
use Rattle.ac_syntax.specs.declared.tree.Value.{Value, Row_of-Value, end_of-Value, more_of-Value, items-the_row-Value, the_lemmas}
use Rattle.ac_syntax.specs.declared.tree.Value.TheVariants.{Number, Access, Call', Call}
use Rattle.ac_syntax.specs.declared.tree.Stmt.{Stmt, Row_of-Stmt, end_of-Stmt, more_of-Stmt}
use Rattle.ac_syntax.specs.declared.tree.Stmt.TheVariants.{For', If', Assign}
use Rattle.ac_syntax.proofs.Texts.{entry_text}
use Rattle.ac_base.proofs.Options.{some-is}
use Rattle.ac_syntax.specs.ExecutedCalls.{HaveArities}
use Rattle.ac_parse.specs.Arities.{HasArities, EachHasArities, AssignsArities, EachAssignsArities, AllHaveArities}
use Rattle.ac_parse.proofs.Built.{count_row}

-- ---- in the text

by_test : (b : Bool) (o p : Option Assigned) (a : Assigned) → cond b o p ≡ Some a → (o ≡ Some a → HasArities a.value) → (p ≡ Some a → HasArities a.value) → HasArities a.value
by_test true o p a e f g = f e
by_test false o p a e f g = g e

mutual
  unfolding assigned AssignsArities

  in_stmt : (s : Stmt) (first i : ℕ) (a : Assigned) → AssignsArities s → assigned s first i ≡ Some a → HasArities a.value
  in_stmt (For' iter start cond step n body place) first i a h e = in_stmts body first i a h e
  in_stmt (If' cond n taken m other place) first i a h e =
      by_test (nat_lt i (first + assignments_in taken)) (assigned_in taken first i) (assigned_in other (first + assignments_in taken) i) a e (in_stmts taken first i a h.0) (in_stmts other (first + assignments_in taken) i a h.1)
  in_stmt (Assign array subs value place) first i a h e = subst (λ (z : Assigned). HasArities z.value) (some-is (record { array = array; subs = subs; value = value }) a e) h

  in_stmts : {m : _} (k : Row_of-Stmt m) (first i : ℕ) (a : Assigned) → EachAssignsArities k → assigned_in k first i ≡ Some a → HasArities a.value
  in_stmts end_of-Stmt first i a h e = absurd cc
  in_stmts (more_of-Stmt s rest) first i a h e = by_test (nat_lt i (first + assignments s)) (assigned s first i) (assigned_in rest (first + assignments s) i) a e (in_stmt s first i a h.0) (in_stmts rest (first + assignments s) i a h.1)

in_body : (body : List Stmt) (first i : ℕ) (a : Assigned) → AllHaveArities body → assigned_all body first i ≡ Some a → HasArities a.value
in_body [] first i a h e = absurd cc
in_body (s ∷ ss) first i a h e = by_test (nat_lt i (first + assignments s)) (assigned s first i) (assigned_all ss (first + assignments s) i) a e (in_stmt s first i a h.0) (in_body ss (first + assignments s) i a h.1)

-- ---- in a value

node_test : (b : Bool) (o p : Option Value) (u : Value) → cond b o p ≡ Some u → (o ≡ Some u → HasArities u) → (p ≡ Some u → HasArities u) → HasArities u
node_test true o p u e f g = f e
node_test false o p u e f g = g e

mutual
  unfolding node_of HasArities

  in_value : (v : Value) (k : ℕ) (u : Value) → HasArities v → node_of v k ≡ Some u → HasArities u
  in_value (Number f) zero u h e = subst HasArities (some-is (Number f) u e) tt
  in_value (Number f) (suc k) u h e = absurd cc
  in_value (Access array subs place) zero u h e = subst HasArities (some-is (Access array subs place) u e) tt
  in_value (Access array subs place) (suc k) u h e = absurd cc
  in_value (Call' symbol n args place) zero u h e = subst HasArities (some-is (Call' symbol n args place) u e) h
  in_value (Call' symbol n args place) (suc k) u h e = in_values args k u h.1 e

  in_values : {m : _} (vs : Row_of-Value m) (k : ℕ) (u : Value) → EachHasArities vs → node_in vs k ≡ Some u → HasArities u
  in_values end_of-Value k u h e = absurd cc
  in_values (more_of-Value v rest) k u h e = node_test (nat_lt k (size v)) (node_of v k) (node_in rest (k - size v)) u e (in_value v k u h.0) (in_values rest (k - size v) u h.1)

call_row : (f : Symbol) (m : _) (args : Row_of-Value _) (place : Place) → HasArities (Call' f m args place) → length (items-the_row-Value _ args) ≡ f.arity
unfolding HasArities
call_row f m args place h = sym (count_row _ args) ∙ h.0

call_arity : (f : Symbol) (args : List Value) (place : Place) → HasArities (Call f args place) → length args ≡ f.arity
call_arity f args place h = search (rules, the_lemmas, call_row, h)

pub executions_have_arities : (body : List Stmt) → AllHaveArities body → HaveArities body
executions_have_arities body h params w stands k f args place e =
    call_arity f args place (in_value w.entry.value k (Call f args place) (in_body body 0 w.entry.stmt (text_of w.entry) h (entry_text body (point params []) w stands)) e)
