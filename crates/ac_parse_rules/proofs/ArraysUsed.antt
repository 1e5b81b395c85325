-- In a body in which no rule is broken, each array that is read or assigned is one of the program's.
use Rattle.std.proofs.Common.{◌≡◌, ℕ, Bool, ◌<◌, ℤ, List, [], ◌∷◌, map, length, sym, subst, ap, ◌∙◌, rules, Option, Some, None}
use Rattle.std.specs.List.{AllByRecursion}
use Rattle.ac_syntax.specs.declared.tree.Place.{Place}
use Rattle.ac_syntax.specs.declared.tree.Cond.{Cond}
use Rattle.ac_syntax.specs.declared.tree.IndexExpr.{IndexExpr}
use Rattle.ac_syntax.specs.declared.tree.Value.{Value}
use Rattle.ac_syntax.specs.declared.tree.Stmt.{Stmt, Row_of-Stmt, end_of-Stmt, more_of-Stmt, items-the_row-Stmt, the_lemmas}
use Rattle.ac_syntax.specs.declared.tree.Stmt.TheVariants as s
use Rattle.ac_syntax.specs.declared.tree.Program.{Program}
use Rattle.ac_parse_grammar.specs.declared.tree.Word.{Word}
use Rattle.ac_parse_grammar.specs.declared.tree.Operator.{Operator}
use Rattle.ac_parse_grammar.specs.declared.tree.Part.{Part}
use Rattle.ac_parse_grammar.specs.declared.tree.Step.{Step}
use Rattle.ac_parse_grammar.specs.declared.tree.Expr.{Expr}
use Rattle.ac_parse_grammar.specs.declared.tree.File.{File}
use Rattle.ac_parse_grammar.specs.declared.tree.Statement.{Statement}
use Rattle.ac_parse_grammar.specs.declared.tree.Statement.TheVariants.{Loop, Branch, Assign}
use Rattle.ac_parse_exprs.specs.declared.scope.Entry.{Entry}
use Rattle.ac_parse_exprs.specs.declared.scope.Scope.{Scope}
use Rattle.ac_parse_exprs.specs.declared.scope.Meaning.{Meaning}
use Rattle.ac_parse_exprs.specs.declared.scope.Meaning.TheVariants as means
use Rattle.ac_parse_exprs.specs.Meanings.{meaning}
use Rattle.ac_parse_rules.specs.Declarations.{param_count}
use Rattle.ac_parse_exprs.specs.Values.{array_number, read_of, value}
use Rattle.ac_parse_rules.specs.Statements.{target_rule, assigned_value, assignment_broken, statement_broken, stmt, stmts, inside}
use Rattle.ac_parse_rules.specs.Files.{body_scope, arrays_under, names_of, broken_under, file_broken, program_under, program_of}
use Rattle.ac_parse_rules.specs.DeclaredNumbers.{ReadsOf, ArraysOf, ArraysIn, HasDeclaredNumbers}
use Rattle.ac_parse_rules.proofs.Stepping.{broken-loop, broken-branch, broken-assign, stmt-loop, stmt-branch, stmt-assign}
use Rattle.ac_parse_rules.proofs.DeclaredNumbers.{MeansBelow, NamesBelow, meaning_below, names_below, has_slots}
use Rattle.ac_parse_exprs.proofs.Absent.{NoneBroken, each, neither, none_of}
use Rattle.ac_parse_rules.proofs.ArraysRead.{access_reads, applied_reads, value_read}
use Rattle.ac_parse_exprs.proofs.Accesses.{rule_holds}
use Rattle.ac_parse_exprs.proofs.Trees.{every_statement}

row_used : (n : ℕ) (m : _) (k : Row_of-Stmt m) → AllByRecursion (ArraysOf n) (items-the_row-Stmt m k) → ArraysIn n k
unfolding ArraysOf
row_used n m end_of-Stmt h = tt
row_used n m (more_of-Stmt {n = l} x rest) h = (h.0, row_used n l rest h.1)

for_row : (n : ℕ) (iter : List ℕ) (start : IndexExpr) (cond : Cond) (step : ℤ) (m : _) (body : Row_of-Stmt _) (place : Place)
    → AllByRecursion (ArraysOf n) (items-the_row-Stmt _ body) → ArraysOf n (s.For' iter start cond step m body place)
unfolding ArraysOf
for_row n iter start cond step m body place h = row_used n _ body h

for_used : (n : ℕ) (iter : List ℕ) (start : IndexExpr) (cond : Cond) (step : ℤ) (body : List Stmt) (place : Place)
    → AllByRecursion (ArraysOf n) body → ArraysOf n (s.For iter start cond step body place)
for_used n iter start cond step body place h = search (rules, the_lemmas, for_row, h)

if_row : (n : ℕ) (c : Cond) (m : _) (taken : Row_of-Stmt _) (l : _) (other : Row_of-Stmt _) (place : Place)
    → AllByRecursion (ArraysOf n) (items-the_row-Stmt _ taken) → AllByRecursion (ArraysOf n) (items-the_row-Stmt _ other) → ArraysOf n (s.If' c m taken l other place)
unfolding ArraysOf
if_row n c m taken l other place h k = (row_used n _ taken h, row_used n _ other k)

if_used : (n : ℕ) (c : Cond) (taken other : List Stmt) (place : Place) → AllByRecursion (ArraysOf n) taken → AllByRecursion (ArraysOf n) other → ArraysOf n (s.If c taken other place)
if_used n c taken other place h k = search (rules, the_lemmas, if_row, h, k)

assign_used : (n array : ℕ) (subs : List IndexExpr) (x : Value) (place : Place) → array < n → ReadsOf n x → ArraysOf n (s.Assign array subs x place)
unfolding ArraysOf
assign_used n array subs x place h k = (h, k)

-- a target in which no rule is broken is an array
target_below : (n k : ℕ) (m : Meaning) → target_rule m k ≡ None → MeansBelow n m → array_number m < n
target_below n k (means.Parameter i) h l = absurd cc
target_below n k (means.Iterator i) h l = absurd cc
target_below n k (means.Array i dimensions) h l = l
target_below n k means.LoopName h l = absurd cc
target_below n k means.OwnStart h l = absurd cc
target_below n k means.Nothing h l = absurd cc

module _ (n : ℕ) (names : List Entry) (below : NamesBelow n names) where
  assigned_reads : (scope : Scope) (target : Word) (subs : List Expr) (operator : Option Operator) (e : Expr)
      → array_number (meaning names scope target.name) < n → ReadsOf n (value names scope e) → ReadsOf n (assigned_value names scope target subs operator e)
  assigned_reads scope target subs None e h k = k
  assigned_reads scope target subs (Some op) e h k =
      applied_reads n op (read_of names scope (meaning names scope target.name) target subs) (value names scope e) (access_reads n _ _ _ h) k

  assignment_used : (scope : Scope) (target : Word) (subs : List Expr) (operator : Option Operator) (e : Expr)
      → assignment_broken names scope target subs operator e ≡ None → (array_number (meaning names scope target.name) < n) × ReadsOf n (assigned_value names scope target subs operator e)
  assignment_used scope target subs operator e h =
      let both = (neither _ _ h).0 in
      let t : array_number (meaning names scope target.name) < n =
      target_below n (length subs) (meaning names scope target.name) (rule_holds names scope _ target subs (neither _ _ both).0) (meaning_below n names scope target.name below) in
      (t, assigned_reads scope target subs operator e t (value_read n names scope below e (neither _ _ both).1))

  abbrev IsUsed : Statement → Type 0
  IsUsed x = (scope : Scope) → statement_broken names x scope ≡ None → ArraysOf n (stmt names x scope)

  all_used : (xs : List Statement) → AllByRecursion IsUsed xs → (scope : Scope) → NoneBroken (map (λ (x : Statement). statement_broken names x scope) xs) → AllByRecursion (ArraysOf n) (stmts names scope xs)
  all_used [] us scope h = tt
  all_used (x ∷ xs) us scope h = (us.0 scope h.0, all_used xs us.1 scope h.1)

  loop_used : (typed : Bool) (name : Word) (start : Expr) (cond : List Part) (step : Step) (body : List Statement) (place : Place) → AllByRecursion IsUsed body → IsUsed (Loop typed name start cond step body place)
  loop_used typed name start cond step body place us scope h =
      let e = sym (broken-loop names scope typed name start cond step body place) ∙ h in
      subst (ArraysOf n) (sym (stmt-loop names scope typed name start cond step body place))
      (for_used n _ _ _ _ _ _ (all_used body us (inside scope name.name) (none_of _ (neither _ _ e).1)))

  branch_used : (cond : List Part) (taken other : List Statement) (place : Place) → AllByRecursion IsUsed taken → AllByRecursion IsUsed other → IsUsed (Branch cond taken other place)
  branch_used cond taken other place us vs scope h =
      let e = neither _ _ (neither _ _ (sym (broken-branch names scope cond taken other place) ∙ h)).1 in
      subst (ArraysOf n) (sym (stmt-branch names scope cond taken other place))
      (if_used n _ _ _ _ (all_used taken us scope (none_of _ e.0)) (all_used other vs scope (none_of _ e.1)))

  assign_is_used : (target : Word) (subs : List Expr) (operator : Option Operator) (e : Expr) → IsUsed (Assign target subs operator e)
  assign_is_used target subs operator e scope h =
      let r = assignment_used scope target subs operator e (sym (broken-assign names scope target subs operator e) ∙ h) in
      subst (ArraysOf n) (sym (stmt-assign names scope target subs operator e)) (assign_used n _ _ _ _ r.0 r.1)

  is_used : (x : Statement) → IsUsed x
  is_used = every_statement IsUsed loop_used branch_used assign_is_used

  each_used : (xs : List Statement) (scope : Scope) → NoneBroken (map (λ (x : Statement). statement_broken names x scope) xs) → AllByRecursion (ArraysOf n) (stmts names scope xs)
  each_used xs = all_used xs (each IsUsed is_used xs)

-- each number of an array or a parameter is one that the program has
pub has_declared : (file : File) → file_broken file ≡ None → HasDeclaredNumbers (program_of file)
has_declared file h = record {
  body = each_used (length (arrays_under (names_of file) file)) (names_of file) (names_below file) file.body (body_scope (param_count file.params)) (none_of _ (neither _ _ (neither _ _ (neither _ _ h).1).0).0);
  slots = has_slots file;
}

-- the program that is made of the file
pub numbers_declared : (file : File) (names names' : List Entry) (program : Program) → names ≡ names_of file → names' ≡ names_of file → broken_under names file ≡ None → program ≡ program_under names' file → HasDeclaredNumbers program
numbers_declared file names names' program e f b h =
    subst HasDeclaredNumbers (sym (h ∙ ap (λ ns. program_under ns file) f)) (has_declared file (sym (ap (λ ns. broken_under ns file) e) ∙ b))
