-- In a body in which no rule is broken, each cell that is read or assigned has a subscript for each dimension of its array.
use Rattle.std.proofs.Common.{◌≡◌, ℕ, Bool, ℤ, List, [], ◌∷◌, map, length, sym, subst, ◌∙◌, rules, Option, Some, None}
use Rattle.std.specs.List.{AllByRecursion}
use Rattle.ac_syntax.specs.Dimensions.{IsCellOf, ReadsCells, UsesCells, EachUsesCells, HasDimensions}
use Rattle.ac_syntax.specs.declared.tree.Array.{Array}
use Rattle.ac_syntax.specs.declared.tree.Place.{Place}
use Rattle.ac_syntax.specs.declared.tree.Cond.{Cond}
use Rattle.ac_syntax.specs.declared.tree.IndexExpr.{IndexExpr}
use Rattle.ac_syntax.specs.declared.tree.Value.{Value}
use Rattle.ac_syntax.specs.declared.tree.Stmt.{Stmt, Row_of-Stmt, end_of-Stmt, more_of-Stmt, items-the_row-Stmt, the_lemmas}
use Rattle.ac_syntax.specs.declared.tree.Stmt.TheVariants as s
use Rattle.ac_parse_grammar.specs.declared.tree.Word.{Word}
use Rattle.ac_parse_grammar.specs.declared.tree.Operator.{Operator}
use Rattle.ac_parse_grammar.specs.declared.tree.Part.{Part}
use Rattle.ac_parse_grammar.specs.declared.tree.Step.{Step}
use Rattle.ac_parse_grammar.specs.declared.tree.Expr.{Expr}
use Rattle.ac_parse_grammar.specs.declared.tree.File.{File}
use Rattle.ac_parse_grammar.specs.declared.tree.Statement.{Statement}
use Rattle.ac_parse_grammar.specs.declared.tree.Statement.TheVariants.{Loop, Branch, Assign}
use Rattle.ac_parse_exprs.specs.declared.scope.Entry.{Entry}
use Rattle.ac_parse_exprs.specs.declared.scope.Scope.{Scope}
use Rattle.ac_parse_exprs.specs.declared.scope.Meaning.{Meaning}
use Rattle.ac_parse_exprs.specs.declared.scope.Meaning.TheVariants as means
use Rattle.ac_parse_exprs.specs.Comparisons.{index}
use Rattle.ac_parse_exprs.specs.Meanings.{meaning}
use Rattle.ac_parse_rules.specs.Declarations.{param_count}
use Rattle.ac_parse_exprs.specs.Values.{array_number, read_of, value}
use Rattle.ac_parse_rules.specs.Statements.{target_rule, assigned_value, assignment_broken, statement_broken, stmt, stmts, inside}
use Rattle.ac_parse_rules.specs.Files.{body_scope, arrays_under, names_of, file_broken, program_of}
use Rattle.ac_parse_rules.proofs.Stepping.{broken-loop, broken-branch, broken-assign, stmt-loop, stmt-branch, stmt-assign}
use Rattle.ac_flow_budget.proofs.Meant.{MeansIn, NamesIn, meaning-in, names-in, cell-of}
use Rattle.ac_parse_exprs.proofs.Absent.{NoneBroken, each, neither, none_of}
use Rattle.ac_parse_exprs.proofs.Accesses.{rule_holds}
use Rattle.ac_flow_budget.proofs.CellsRead.{access_reads, applied_reads, value_read}
use Rattle.ac_parse_exprs.proofs.Trees.{every_statement}

row_used : (arrays : List Array) (m : _) (k : Row_of-Stmt m) → AllByRecursion (UsesCells arrays) (items-the_row-Stmt m k) → EachUsesCells arrays k
unfolding UsesCells
row_used arrays m end_of-Stmt h = tt
row_used arrays m (more_of-Stmt {n = l} x rest) h = (h.0, row_used arrays l rest h.1)

for_row : (arrays : List Array) (iter : List ℕ) (start : IndexExpr) (cond : Cond) (step : ℤ) (m : _) (body : Row_of-Stmt _) (place : Place)
    → AllByRecursion (UsesCells arrays) (items-the_row-Stmt _ body) → UsesCells arrays (s.For' iter start cond step m body place)
unfolding UsesCells
for_row arrays iter start cond step m body place h = row_used arrays _ body h

for_used : (arrays : List Array) (iter : List ℕ) (start : IndexExpr) (cond : Cond) (step : ℤ) (body : List Stmt) (place : Place)
    → AllByRecursion (UsesCells arrays) body → UsesCells arrays (s.For iter start cond step body place)
for_used arrays iter start cond step body place h = search (rules, the_lemmas, for_row, h)

if_row : (arrays : List Array) (c : Cond) (m : _) (taken : Row_of-Stmt _) (l : _) (other : Row_of-Stmt _) (place : Place)
    → AllByRecursion (UsesCells arrays) (items-the_row-Stmt _ taken) → AllByRecursion (UsesCells arrays) (items-the_row-Stmt _ other) → UsesCells arrays (s.If' c m taken l other place)
unfolding UsesCells
if_row arrays c m taken l other place h k = (row_used arrays _ taken h, row_used arrays _ other k)

if_used : (arrays : List Array) (c : Cond) (taken other : List Stmt) (place : Place) → AllByRecursion (UsesCells arrays) taken → AllByRecursion (UsesCells arrays) other → UsesCells arrays (s.If c taken other place)
if_used arrays c taken other place h k = search (rules, the_lemmas, if_row, h, k)

assign_used : (arrays : List Array) (array : ℕ) (subs : List IndexExpr) (x : Value) (place : Place) → IsCellOf arrays array subs → ReadsCells arrays x → UsesCells arrays (s.Assign array subs x place)
unfolding UsesCells
assign_used arrays array subs x place h k = (h, k)

-- a target in which no rule is broken is a cell of an array
target_cell : (arrays : List Array) (names : List Entry) (scope : Scope) (m : Meaning) (subs : List Expr) → target_rule m (length subs) ≡ None → MeansIn arrays m → IsCellOf arrays (array_number m) (map (index names scope) subs)
target_cell arrays names scope (means.Parameter i) subs h l = absurd cc
target_cell arrays names scope (means.Iterator i) subs h l = absurd cc
target_cell arrays names scope (means.Array i dimensions) subs h l = cell-of arrays names scope i dimensions subs l h
target_cell arrays names scope means.LoopName subs h l = absurd cc
target_cell arrays names scope means.OwnStart subs h l = absurd cc
target_cell arrays names scope means.Nothing subs h l = absurd cc

module _ (arrays : List Array) (names : List Entry) (meant : NamesIn arrays names) where
  assigned_reads : (scope : Scope) (target : Word) (subs : List Expr) (operator : Option Operator) (e : Expr)
      → IsCellOf arrays (array_number (meaning names scope target.name)) (map (index names scope) subs) → ReadsCells arrays (value names scope e) → ReadsCells arrays (assigned_value names scope target subs operator e)
  assigned_reads scope target subs None e h k = k
  assigned_reads scope target subs (Some op) e h k =
      applied_reads arrays op (read_of names scope (meaning names scope target.name) target subs) (value names scope e) (access_reads arrays _ _ _ h) k

  assignment_used : (scope : Scope) (target : Word) (subs : List Expr) (operator : Option Operator) (e : Expr)
      → assignment_broken names scope target subs operator e ≡ None → IsCellOf arrays (array_number (meaning names scope target.name)) (map (index names scope) subs) × ReadsCells arrays (assigned_value names scope target subs operator e)
  assignment_used scope target subs operator e h =
      let both = (neither _ _ h).0 in
      let t : IsCellOf arrays (array_number (meaning names scope target.name)) (map (index names scope) subs) =
      target_cell arrays names scope (meaning names scope target.name) subs (rule_holds names scope _ target subs (neither _ _ both).0) (meaning-in arrays names scope target.name meant) in
      (t, assigned_reads scope target subs operator e t (value_read arrays names scope meant e (neither _ _ both).1))

  abbrev IsUsed : Statement → Type 0
  IsUsed x = (scope : Scope) → statement_broken names x scope ≡ None → UsesCells arrays (stmt names x scope)

  all_used : (xs : List Statement) → AllByRecursion IsUsed xs → (scope : Scope) → NoneBroken (map (λ (x : Statement). statement_broken names x scope) xs) → AllByRecursion (UsesCells arrays) (stmts names scope xs)
  all_used [] us scope h = tt
  all_used (x ∷ xs) us scope h = (us.0 scope h.0, all_used xs us.1 scope h.1)

  loop_used : (typed : Bool) (name : Word) (start : Expr) (cond : List Part) (step : Step) (body : List Statement) (place : Place) → AllByRecursion IsUsed body → IsUsed (Loop typed name start cond step body place)
  loop_used typed name start cond step body place us scope h =
      let e = sym (broken-loop names scope typed name start cond step body place) ∙ h in
      subst (UsesCells arrays) (sym (stmt-loop names scope typed name start cond step body place))
      (for_used arrays _ _ _ _ _ _ (all_used body us (inside scope name.name) (none_of _ (neither _ _ e).1)))

  branch_used : (cond : List Part) (taken other : List Statement) (place : Place) → AllByRecursion IsUsed taken → AllByRecursion IsUsed other → IsUsed (Branch cond taken other place)
  branch_used cond taken other place us vs scope h =
      let e = neither _ _ (neither _ _ (sym (broken-branch names scope cond taken other place) ∙ h)).1 in
      subst (UsesCells arrays) (sym (stmt-branch names scope cond taken other place))
      (if_used arrays _ _ _ _ (all_used taken us scope (none_of _ e.0)) (all_used other vs scope (none_of _ e.1)))

  assign_is_used : (target : Word) (subs : List Expr) (operator : Option Operator) (e : Expr) → IsUsed (Assign target subs operator e)
  assign_is_used target subs operator e scope h =
      let r = assignment_used scope target subs operator e (sym (broken-assign names scope target subs operator e) ∙ h) in
      subst (UsesCells arrays) (sym (stmt-assign names scope target subs operator e)) (assign_used arrays _ _ _ _ r.0 r.1)

  is_used : (x : Statement) → IsUsed x
  is_used = every_statement IsUsed loop_used branch_used assign_is_used

  each_used : (xs : List Statement) (scope : Scope) → NoneBroken (map (λ (x : Statement). statement_broken names x scope) xs) → AllByRecursion (UsesCells arrays) (stmts names scope xs)
  each_used xs = all_used xs (each IsUsed is_used xs)

-- the whole
pub has_dimensions : (file : File) → file_broken file ≡ None → HasDimensions (program_of file)
has_dimensions file h = each_used (arrays_under (names_of file) file) (names_of file) (names-in file) file.body (body_scope (param_count file.params)) (none_of _ (neither _ _ (neither _ _ (neither _ _ h).1).0).0)
