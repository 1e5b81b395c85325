-- In a body in which no rule is broken, each call has as many arguments as its symbol says.
use Rattle.std.proofs.Common.{◌≡◌, ℕ, ◌≤◌, Bool, true, false, ℤ, List, [], ◌∷◌, map, refl, sym, subst, ◌∙◌, rules, Option, Some, None, arith}
use Rattle.std.specs.Prelude.{nat_lt}
use Rattle.std.specs.List.{AllByRecursion}
use Rattle.std.proofs.lemmas.Bool.Decides.{nat_tests}
use Rattle.ac_syntax.specs.ValueNodes.{size}
use Rattle.ac_syntax.specs.declared.tree.Place.{Place}
use Rattle.ac_syntax.specs.declared.tree.Cond.{Cond}
use Rattle.ac_syntax.specs.declared.tree.IndexExpr.{IndexExpr}
use Rattle.ac_syntax.specs.declared.tree.Value.{Value}
use Rattle.ac_syntax.specs.declared.tree.Stmt.{Stmt, Row_of-Stmt, end_of-Stmt, more_of-Stmt, items-the_row-Stmt, the_lemmas}
use Rattle.ac_syntax.specs.declared.tree.Stmt.TheVariants as s
use Rattle.ac_parse_grammar.specs.declared.tree.Word.{Word}
use Rattle.ac_parse_grammar.specs.declared.tree.Operator.{Operator}
use Rattle.ac_parse_grammar.specs.declared.tree.Part.{Part}
use Rattle.ac_parse_grammar.specs.declared.tree.Step.{Step}
use Rattle.ac_parse_grammar.specs.declared.tree.Expr.{Expr}
use Rattle.ac_parse_grammar.specs.declared.tree.File.{File}
use Rattle.ac_parse_grammar.specs.declared.tree.Statement.{Statement}
use Rattle.ac_parse_grammar.specs.declared.tree.Statement.TheVariants.{Loop, Branch, Assign}
use Rattle.ac_parse_exprs.specs.declared.scope.Entry.{Entry}
use Rattle.ac_parse_exprs.specs.declared.scope.Scope.{Scope}
use Rattle.ac_parse_exprs.specs.declared.fault.Rule.{Rule}
use Rattle.ac_parse_exprs.specs.FaultOrder.{broken_where}
use Rattle.ac_parse_exprs.specs.Meanings.{meaning}
use Rattle.ac_parse_rules.specs.Declarations.{param_count}
use Rattle.ac_parse_exprs.specs.Values.{read_of, value}
use Rattle.ac_parse_rules.specs.Statements.{assigned_value, assignment_broken, statement_broken, stmt, stmts, inside}
use Rattle.ac_parse_rules.specs.Files.{body_scope, names_of, file_broken, program_of}
use Rattle.ac_parse_rules.proofs.Stepping.{broken-loop, broken-branch, broken-assign, stmt-loop, stmt-branch, stmt-assign}
use Rattle.ac_parse_exprs.proofs.Absent.{NoneBroken, each, neither, none_of}
use Rattle.ac_parse_exprs.proofs.Trees.{every_statement}
use Rattle.ac_parse.specs.Arities.{HasArities, AssignsArities, EachAssignsArities, AllHaveArities}
use Rattle.ac_parse.proofs.Built.{Counts, has_arities, applied_counts, access_counts, value_read}

row_assigns : (m : _) (k : Row_of-Stmt m) → AllByRecursion AssignsArities (items-the_row-Stmt m k) → EachAssignsArities k
unfolding AssignsArities
row_assigns m end_of-Stmt h = tt
row_assigns m (more_of-Stmt {n = l} x rest) h = (h.0, row_assigns l rest h.1)

for_row : (iter : List ℕ) (start : IndexExpr) (cond : Cond) (step : ℤ) (m : _) (body : Row_of-Stmt _) (place : Place) → AllByRecursion AssignsArities (items-the_row-Stmt _ body) → AssignsArities (s.For' iter start cond step m body place)
unfolding AssignsArities
for_row iter start cond step m body place h = row_assigns _ body h

for_assigns : (iter : List ℕ) (start : IndexExpr) (cond : Cond) (step : ℤ) (body : List Stmt) (place : Place) → AllByRecursion AssignsArities body → AssignsArities (s.For iter start cond step body place)
for_assigns iter start cond step body place h = search (rules, the_lemmas, for_row, h)

if_row : (c : Cond) (m : _) (taken : Row_of-Stmt _) (l : _) (other : Row_of-Stmt _) (place : Place)
    → AllByRecursion AssignsArities (items-the_row-Stmt _ taken) → AllByRecursion AssignsArities (items-the_row-Stmt _ other) → AssignsArities (s.If' c m taken l other place)
unfolding AssignsArities
if_row c m taken l other place h k = (row_assigns _ taken h, row_assigns _ other k)

if_assigns : (c : Cond) (taken other : List Stmt) (place : Place) → AllByRecursion AssignsArities taken → AllByRecursion AssignsArities other → AssignsArities (s.If c taken other place)
if_assigns c taken other place h k = search (rules, the_lemmas, if_row, h, k)

assign_assigns : (array : ℕ) (subs : List IndexExpr) (x : Value) (place : Place) → HasArities x → AssignsArities (s.Assign array subs x place)
unfolding AssignsArities
assign_assigns array subs x place h = h

not_many : (n : ℕ) (rule : Rule) (place : Place) (b : Bool) → nat_lt 64 n ≡ b → broken_where b rule place ≡ None → n ≤ 64
not_many n rule place true e h = absurd cc
not_many n rule place false e h = grind (arith, nat_tests)

module _ (names : List Entry) where
  assigned_counts : (scope : Scope) (target : Word) (subs : List Expr) (operator : Option Operator) (e : Expr) → Counts (assigned_value names scope target subs operator e)
  assigned_counts scope target subs None e = value_read names scope e
  assigned_counts scope target subs (Some op) e = applied_counts op (read_of names scope (meaning names scope target.name) target subs) (value names scope e) (access_counts _ _ _) (value_read names scope e)

  assignment_has : (scope : Scope) (target : Word) (subs : List Expr) (operator : Option Operator) (e : Expr) → assignment_broken names scope target subs operator e ≡ None → HasArities (assigned_value names scope target subs operator e)
  assignment_has scope target subs operator e h =
      let x = assigned_value names scope target subs operator e in
      has_arities x (assigned_counts scope target subs operator e) (not_many (size x) _ target.place (nat_lt 64 (size x)) refl (neither _ _ h).1)

  abbrev Has : Statement → Type 0
  Has x = (scope : Scope) → statement_broken names x scope ≡ None → AssignsArities (stmt names x scope)

  all_have : (xs : List Statement) → AllByRecursion Has xs → (scope : Scope) → NoneBroken (map (λ (x : Statement). statement_broken names x scope) xs) → AllByRecursion AssignsArities (stmts names scope xs)
  all_have [] us scope h = tt
  all_have (x ∷ xs) us scope h = (us.0 scope h.0, all_have xs us.1 scope h.1)

  loop_has : (typed : Bool) (name : Word) (start : Expr) (cond : List Part) (step : Step) (body : List Statement) (place : Place) → AllByRecursion Has body → Has (Loop typed name start cond step body place)
  loop_has typed name start cond step body place us scope h =
      let e = sym (broken-loop names scope typed name start cond step body place) ∙ h in
      subst AssignsArities (sym (stmt-loop names scope typed name start cond step body place))
      (for_assigns _ _ _ _ _ _ (all_have body us (inside scope name.name) (none_of _ (neither _ _ e).1)))

  branch_has : (cond : List Part) (taken other : List Statement) (place : Place) → AllByRecursion Has taken → AllByRecursion Has other → Has (Branch cond taken other place)
  branch_has cond taken other place us vs scope h =
      let e = neither _ _ (neither _ _ (sym (broken-branch names scope cond taken other place) ∙ h)).1 in
      subst AssignsArities (sym (stmt-branch names scope cond taken other place))
      (if_assigns _ _ _ _ (all_have taken us scope (none_of _ e.0)) (all_have other vs scope (none_of _ e.1)))

  assign_has : (target : Word) (subs : List Expr) (operator : Option Operator) (e : Expr) → Has (Assign target subs operator e)
  assign_has target subs operator e scope h =
      subst AssignsArities (sym (stmt-assign names scope target subs operator e)) (assign_assigns _ _ _ _ (assignment_has scope target subs operator e (sym (broken-assign names scope target subs operator e) ∙ h)))

  has : (x : Statement) → Has x
  has = every_statement Has loop_has branch_has assign_has

  each_has : (xs : List Statement) (scope : Scope) → NoneBroken (map (λ (x : Statement). statement_broken names x scope) xs) → AllByRecursion AssignsArities (stmts names scope xs)
  each_has xs = all_have xs (each Has has xs)

-- the whole
pub files_have_arities : (file : File) → file_broken file ≡ None → AllHaveArities (program_of file).body
files_have_arities file h = each_has (names_of file) file.body (body_scope (param_count file.params)) (none_of _ (neither _ _ (neither _ _ (neither _ _ h).1).0).0)
