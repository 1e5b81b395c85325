-- Statements that break no rule: their index expressions are within the limits, and at most 6 loops are around them.
use Rattle.std.proofs.Common.{◌≡◌, ℕ, ℤ, Bool, false, List, [], ◌∷◌, length, map, nat_lt, Option, None, sym, subst, ◌∙◌, arith, rules}
use Rattle.std.specs.List.{AllByRecursion}
use Rattle.std.proofs.lemmas.Bool.Decides.{nat_tests}
use Rattle.ac_syntax.specs.Small.{IsSmallForm, AreSmallForms, AreSmallParts, IsSmallValue, IsSmallStmt, AreSmallStmts}
use Rattle.ac_syntax.specs.declared.tree.Place.{Place}
use Rattle.ac_syntax.specs.declared.tree.Cond.{Cond}
use Rattle.ac_syntax.specs.declared.tree.IndexExpr.{IndexExpr}
use Rattle.ac_syntax.specs.declared.tree.Value.{Value}
use Rattle.ac_syntax.specs.declared.tree.Stmt.{Stmt, Row_of-Stmt, end_of-Stmt, more_of-Stmt, items-the_row-Stmt, the_lemmas}
use Rattle.ac_syntax.specs.declared.tree.Stmt.TheVariants as s
use Rattle.ac_parse_grammar.specs.declared.tree.Word.{Word}
use Rattle.ac_parse_grammar.specs.declared.tree.Step.{Step}
use Rattle.ac_parse_grammar.specs.declared.tree.Part.{Part}
use Rattle.ac_parse_grammar.specs.declared.tree.Operator.{Operator}
use Rattle.ac_parse_grammar.specs.declared.tree.Expr.{Expr}
use Rattle.ac_parse_grammar.specs.declared.tree.Statement.{Statement}
use Rattle.ac_parse_grammar.specs.declared.tree.Statement.TheVariants.{Loop, Branch, Assign}
use Rattle.ac_parse_exprs.specs.declared.fault.Which.TheVariants as which
use Rattle.ac_parse_exprs.specs.declared.fault.Rule.{Rule}
use Rattle.ac_parse_exprs.specs.declared.fault.Rule.TheVariants.{Limit}
use Rattle.ac_parse_exprs.specs.declared.fault.Broken.{Broken}
use Rattle.ac_parse_exprs.specs.declared.scope.Entry.{Entry}
use Rattle.ac_parse_exprs.specs.declared.scope.Scope.{Scope}
use Rattle.ac_parse_exprs.specs.FaultOrder.{earlier, broken_where}
use Rattle.ac_parse_exprs.specs.Meanings.{meaning}
use Rattle.ac_parse_exprs.specs.Comparisons.{index, condition, condition_broken}
use Rattle.ac_parse_exprs.specs.Values.{array_number}
use Rattle.ac_parse_rules.specs.Statements.{inside, in_test, in_start, step_number, head_broken, assigned_value, statement_broken, statements_broken, stmt, stmts}
use Rattle.ac_parse_exprs.proofs.Absent.{NoneBroken, each, neither, none_of, not_where}
use Rattle.ac_parse_rules.proofs.Stepping.{broken-loop, broken-branch, stmt-loop, stmt-branch, stmt-assign}
use Rattle.ac_parse_exprs.proofs.SmallForms.{Few, small_index, small_indices, small_condition}
use Rattle.ac_parse_rules.proofs.UnbrokenParts.{none_in, head_condition}
use Rattle.ac_parse_rules.proofs.SmallValues.{small_assigned}
use Rattle.ac_parse_exprs.proofs.Trees.{every_statement}

front_none : (b : Bool) (rule : Rule) (place : Place) (c d : Option Broken) → earlier (earlier (broken_where b rule place) c) d ≡ None → b ≡ false
front_none b rule place c d h = not_where b rule place (neither (broken_where b rule place) c (neither (earlier (broken_where b rule place) c) d h).0).0

-- the parts of a statement
of_row : (m : _) (k : Row_of-Stmt m) → AllByRecursion IsSmallStmt (items-the_row-Stmt m k) → AreSmallStmts k
unfolding IsSmallStmt
of_row m end_of-Stmt h = tt
of_row m (more_of-Stmt {n = n} s rest) h = (h.0, of_row n rest h.1)

of_for_row : (iter : List ℕ) (start : IndexExpr) (cond : Cond) (step : ℤ) (n : _) (body : Row_of-Stmt _) (place : Place)
    → IsSmallForm start → AreSmallParts cond.parts → AllByRecursion IsSmallStmt (items-the_row-Stmt _ body) → IsSmallStmt (s.For' iter start cond step n body place)
unfolding IsSmallStmt
of_for_row iter start cond step n body place h k r = (h, k, of_row _ body r)

small_for : (iter : List ℕ) (start : IndexExpr) (cond : Cond) (step : ℤ) (body : List Stmt) (place : Place)
    → IsSmallForm start → AreSmallParts cond.parts → AllByRecursion IsSmallStmt body → IsSmallStmt (s.For iter start cond step body place)
small_for iter start cond step body place h k r = search (rules, the_lemmas, of_for_row, h, k, r)

of_if_row : (c : Cond) (n : _) (taken : Row_of-Stmt _) (m : _) (other : Row_of-Stmt _) (place : Place)
    → AreSmallParts c.parts → AllByRecursion IsSmallStmt (items-the_row-Stmt _ taken) → AllByRecursion IsSmallStmt (items-the_row-Stmt _ other) → IsSmallStmt (s.If' c n taken m other place)
unfolding IsSmallStmt
of_if_row c n taken m other place h t o = (h, of_row _ taken t, of_row _ other o)

small_if : (c : Cond) (taken other : List Stmt) (place : Place) → AreSmallParts c.parts → AllByRecursion IsSmallStmt taken → AllByRecursion IsSmallStmt other → IsSmallStmt (s.If c taken other place)
small_if c taken other place h t o = search (rules, the_lemmas, of_if_row, h, t, o)

small_assign : (array : ℕ) (subs : List IndexExpr) (value : Value) (place : Place) → AreSmallForms subs → IsSmallValue value → IsSmallStmt (s.Assign array subs value place)
unfolding IsSmallStmt
small_assign array subs value place h k = (h, k)

module _ (names : List Entry) where
  abbrev Kept : Statement → Type 0
  Kept s = (scope : Scope) → Few scope → statement_broken names s scope ≡ None → IsSmallStmt (stmt names s scope)

  small_each : (ss : List Statement) → AllByRecursion Kept ss → (scope : Scope) → Few scope → NoneBroken (map (λ s. statement_broken names s scope) ss) → AllByRecursion IsSmallStmt (stmts names scope ss)
  small_each [] ks scope few h = tt
  small_each (s ∷ ss) ks scope few h = (ks.0 scope few h.0, small_each ss ks.1 scope few h.1)

  small_body : (ss : List Statement) → AllByRecursion Kept ss → (scope : Scope) → Few scope → statements_broken names scope ss ≡ None → AllByRecursion IsSmallStmt (stmts names scope ss)
  small_body ss ks scope few h = small_each ss ks scope few (none_of (map (λ s. statement_broken names s scope) ss) h)

  one_more : (scope : Scope) (name : List ℕ) → Few scope → nat_lt 5 (length scope.iterators) ≡ false → Few (inside scope name)
  one_more scope name few h = record { params = few.params; loops = grind (arith, nat_tests) }

  at_test : (scope : Scope) (name : List ℕ) → Few (inside scope name) → Few (in_test scope name)
  at_test scope name few = record { params = few.params; loops = few.loops }

  at_start : (scope : Scope) (typed : Bool) (name : List ℕ) → Few scope → Few (in_start scope typed name)
  at_start scope typed name few = record { params = few.params; loops = few.loops }

  small_loop : (typed : Bool) (name : Word) (start : Expr) (cond : List Part) (step : Step) (body : List Statement) (place : Place) → AllByRecursion Kept body → Kept (Loop typed name start cond step body place)
  small_loop typed name start cond step body place ks scope few h =
      let e = neither (head_broken names scope typed name start cond step place) (statements_broken names (inside scope name.name) body) (sym (broken-loop names scope typed name start cond step body place) ∙ h) in
      let i = one_more scope name.name few (front_none (nat_lt 5 (length scope.iterators)) (Limit which.Depth) place _ _ e.0) in
      subst IsSmallStmt (sym (stmt-loop names scope typed name start cond step body place))
      (small_for name.name (index names (in_start scope typed name.name) start) (record { parts = condition names (in_test scope name.name) cond }) (step_number step) (stmts names (inside scope name.name) body) place
      (small_index names (in_start scope typed name.name) (at_start scope typed name.name few) start) (small_condition names (in_test scope name.name) (at_test scope name.name i) cond (none_in names (in_test scope name.name) cond (head_condition names scope typed name start cond step place e.0))) (small_body body ks (inside scope name.name) i e.1))

  small_branch : (cond : List Part) (taken other : List Statement) (place : Place) → AllByRecursion Kept taken → AllByRecursion Kept other → Kept (Branch cond taken other place)
  small_branch cond taken other place ts os scope few h =
      let e = neither (condition_broken names scope cond) (earlier (statements_broken names scope taken) (statements_broken names scope other)) (sym (broken-branch names scope cond taken other place) ∙ h) in
      let b = neither (statements_broken names scope taken) (statements_broken names scope other) e.1 in
      subst IsSmallStmt (sym (stmt-branch names scope cond taken other place))
      (small_if (record { parts = condition names scope cond }) (stmts names scope taken) (stmts names scope other) place
      (small_condition names scope few cond (none_in names scope cond e.0)) (small_body taken ts scope few b.0) (small_body other os scope few b.1))

  small_assignment : (target : Word) (subs : List Expr) (operator : Option Operator) (e : Expr) → Kept (Assign target subs operator e)
  small_assignment target subs operator e scope few h =
      subst IsSmallStmt (sym (stmt-assign names scope target subs operator e))
      (small_assign (array_number (meaning names scope target.name)) (map (index names scope) subs) (assigned_value names scope target subs operator e) target.place
      (small_indices names scope few subs) (small_assigned names scope few target subs operator e))

  kept : (s : Statement) → Kept s
  kept = every_statement Kept small_loop small_branch small_assignment

  pub small_statements : (scope : Scope) (ss : List Statement) → Few scope → statements_broken names scope ss ≡ None → AllByRecursion IsSmallStmt (stmts names scope ss)
  small_statements scope ss few h = small_body ss (each Kept kept ss) scope few h
