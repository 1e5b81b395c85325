-- A program has as many assignments as its text has targets.
use Rattle.std.proofs.Common.{◌≡◌, ◌≤◌, ◌+◌, ℕ, ℤ, Bool, List, [], ◌∷◌, length, refl, sym, ap, subst, ◌∙◌, rules, Option, Some, None}
use Rattle.std.specs.Prelude.{slice_get, option_and_then}
use Rattle.std.specs.List.{AllByRecursion}
use Rattle.std.proofs.lemmas.List.{length-append}
use Rattle.ac_syntax.specs.declared.tree.Cond.{Cond}
use Rattle.ac_syntax.specs.declared.tree.IndexExpr.{IndexExpr}
use Rattle.ac_syntax.specs.declared.tree.Place.{Place}
use Rattle.ac_syntax.specs.declared.tree.Value.{Value}
use Rattle.ac_syntax.specs.declared.tree.Stmt.{Stmt, Row_of-Stmt, end_of-Stmt, more_of-Stmt, items-the_row-Stmt, the_lemmas}
use Rattle.ac_syntax.specs.declared.tree.Stmt.TheVariants as s
use Rattle.ac_parse_grammar.specs.declared.tree.Word.{Word}
use Rattle.ac_parse_grammar.specs.declared.tree.Operator.{Operator}
use Rattle.ac_parse_grammar.specs.declared.tree.Part.{Part}
use Rattle.ac_parse_grammar.specs.declared.tree.Step.{Step}
use Rattle.ac_parse_grammar.specs.declared.tree.Expr.{Expr}
use Rattle.ac_parse_grammar.specs.declared.tree.Statement.{Statement}
use Rattle.ac_parse_grammar.specs.declared.tree.Statement.TheVariants.{Loop, Branch, Assign}
use Rattle.ac_parse_exprs.specs.declared.fault.Which.TheVariants as which
use Rattle.ac_parse_exprs.specs.declared.fault.Rule.TheVariants.{Limit}
use Rattle.ac_parse_exprs.specs.declared.scope.Entry.{Entry}
use Rattle.ac_parse_exprs.specs.declared.scope.Scope.{Scope}
use Rattle.ac_parse_exprs.specs.FaultOrder.{broken}
use Rattle.ac_parse_rules.specs.Files.{assignments_broken}
use Rattle.ac_parse_rules.specs.Statements.{inside, targets, all_targets, stmt, stmts}
use Rattle.ac_parse_exprs.proofs.Absent.{each}
use Rattle.ac_parse_rules.proofs.Stepping.{targets-loop, targets-branch, targets-assign, stmt-loop, stmt-branch, stmt-assign}
use Rattle.ac_parse_exprs.proofs.Trees.{every_statement}
use Rattle.ac_parse_roundtrip.specs.CanonicalPrograms.{assignments, assignments_in, all_assignments}
use Rattle.ac_parse_roundtrip.proofs.ReadableDeclarations.{none_at}

counted_row : (m : _) (body : Row_of-Stmt m) → assignments_in body ≡ all_assignments (items-the_row-Stmt m body)
unfolding assignments
counted_row m end_of-Stmt = refl
counted_row m (more_of-Stmt {n = n} x rest) = ap (λ k. assignments x + k) (counted_row n rest)

for_row : (iter : List ℕ) (start : IndexExpr) (cond : Cond) (step : ℤ) (n : _) (body : Row_of-Stmt _) (place : Place)
    → assignments (s.For' iter start cond step n body place) ≡ all_assignments (items-the_row-Stmt _ body)
unfolding assignments
for_row iter start cond step n body place = counted_row _ body

counted_for : (iter : List ℕ) (start : IndexExpr) (cond : Cond) (step : ℤ) (body : List Stmt) (place : Place) → assignments (s.For iter start cond step body place) ≡ all_assignments body
counted_for iter start cond step body place = search (rules, the_lemmas, for_row)

if_row : (cond : Cond) (n : _) (taken : Row_of-Stmt _) (m : _) (other : Row_of-Stmt _) (place : Place)
    → assignments (s.If' cond n taken m other place) ≡ all_assignments (items-the_row-Stmt _ taken) + all_assignments (items-the_row-Stmt _ other)
unfolding assignments
if_row cond n taken m other place = rw (counted_row _ taken, counted_row _ other) refl

counted_if : (cond : Cond) (taken other : List Stmt) (place : Place) → assignments (s.If cond taken other place) ≡ all_assignments taken + all_assignments other
counted_if cond taken other place = search (rules, the_lemmas, if_row)

counted_assign : (array : ℕ) (subs : List IndexExpr) (v : Value) (place : Place) → assignments (s.Assign array subs v place) ≡ 1
unfolding assignments
counted_assign array subs v place = refl

module _ (names : List Entry) where
  abbrev IsCounted : Statement → Type 0
  IsCounted x = (scope : Scope) → assignments (stmt names x scope) ≡ length (targets x)

  all_counted : (scope : Scope) (xs : List Statement) → AllByRecursion IsCounted xs → all_assignments (stmts names scope xs) ≡ length (all_targets xs)
  all_counted scope [] h = refl
  all_counted scope (x ∷ xs) h =
      let e = h.0 scope in
      let r = all_counted scope xs h.1 in
      rw (e, r) (sym (length-append (targets x) (all_targets xs)))

  loop_counted : (typed : Bool) (name : Word) (start : Expr) (cond : List Part) (step : Step) (body : List Statement) (place : Place) → AllByRecursion IsCounted body → IsCounted (Loop typed name start cond step body place)
  loop_counted typed name start cond step body place h scope =
      ap assignments (stmt-loop names scope typed name start cond step body place) ∙ counted_for _ _ _ _ _ _ ∙ all_counted (inside scope name.name) body h ∙ ap length (sym (targets-loop typed name start cond step body place))

  branch_counted : (cond : List Part) (taken other : List Statement) (place : Place) → AllByRecursion IsCounted taken → AllByRecursion IsCounted other → IsCounted (Branch cond taken other place)
  branch_counted cond taken other place h k scope =
      let a = all_counted scope taken h in
      let b = all_counted scope other k in
      ap assignments (stmt-branch names scope cond taken other place) ∙ counted_if _ _ _ _ ∙ rw (a, b) (sym (length-append (all_targets taken) (all_targets other)))
      ∙ ap length (sym (targets-branch cond taken other place))

  assign_counted : (target : Word) (subs : List Expr) (operator : Option Operator) (e : Expr) → IsCounted (Assign target subs operator e)
  assign_counted target subs operator e scope =
      ap assignments (stmt-assign names scope target subs operator e) ∙ counted_assign _ _ _ _ ∙ ap length (sym (targets-assign target subs operator e))

  counted : (x : Statement) → IsCounted x
  counted = every_statement IsCounted loop_counted branch_counted assign_counted

  -- at most 48 where no rule is broken
  pub few_assignments : (scope : Scope) (body : List Statement) → assignments_broken body ≡ None → all_assignments (stmts names scope body) ≤ 48
  few_assignments scope body h = subst (λ n. n ≤ 48) (sym (all_counted scope body (each IsCounted counted body))) (none_at (all_targets body) 48 (by (slice_get (all_targets body) 48) h))
    where
      by : (o : Option Place) → option_and_then (λ place. broken (Limit which.Assignments) place) o ≡ None → o ≡ None
      by None h = refl
      by (Some place) h = absurd cc
