-- Statements of each kind, at lists.
use Rattle.std.proofs.Common.{◌≡◌, List, [], ◌∷◌, ◌++◌, map, refl, rules, ap, ◌∙◌, Bool, Option}
use Rattle.std.specs.List.{flat_map}
use Rattle.ac_syntax.specs.declared.tree.Place.{Place}
use Rattle.ac_syntax.specs.declared.tree.Stmt.TheVariants as s
use Rattle.ac_parse_grammar.specs.declared.tree.Word.{Word}
use Rattle.ac_parse_grammar.specs.declared.tree.Step.{Step}
use Rattle.ac_parse_grammar.specs.declared.tree.Part.{Part}
use Rattle.ac_parse_grammar.specs.declared.tree.Operator.{Operator}
use Rattle.ac_parse_grammar.specs.declared.tree.Expr.{Expr}
use Rattle.ac_parse_grammar.specs.declared.tree.Statement.{Statement, the_lemmas}
use Rattle.ac_parse_grammar.specs.declared.tree.Statement.TheVariants.{Loop, Branch, Assign}
use Rattle.ac_parse_exprs.specs.declared.scope.Entry.{Entry}
use Rattle.ac_parse_exprs.specs.declared.scope.Scope.{Scope}
use Rattle.ac_parse_exprs.specs.FaultOrder.{earlier}
use Rattle.ac_parse_exprs.specs.Meanings.{meaning}
use Rattle.ac_parse_exprs.specs.Comparisons.{first_of, index, condition, condition_broken}
use Rattle.ac_parse_exprs.specs.Values.{array_number}
use Rattle.ac_parse_rules.specs.Statements.{inside, in_test, in_start, head_broken, assignment_broken, assigned_value, first_in, statement_broken, statements_broken, targets, all_targets, each_in, step_number, stmt, stmts}

applied_each : {A B C : Type 0} (f : A → B → C) (b : B) (xs : List A) → map (λ (g : B → C). g b) (map f xs) ≡ map (λ x. f x b) xs
applied_each f b [] = refl
applied_each f b (x ∷ xs) = ap (λ ys. f x b ∷ ys) (applied_each f b xs)

broken_loop : (names : List Entry) (typed : Bool) (name : Word) (start : Expr) (cond : List Part) (step : Step) (body : List Statement) (place : Place)
    → statement_broken names (Loop typed name start cond step body place) ≡ (λ scope. earlier (head_broken names scope typed name start cond step place) (first_in (inside scope name.name) (map (statement_broken names) body)))
unfolding statement_broken
broken_loop names typed name start cond step body place = search (rules, the_lemmas)

pub broken-loop : (names : List Entry) (scope : Scope) (typed : Bool) (name : Word) (start : Expr) (cond : List Part) (step : Step) (body : List Statement) (place : Place)
    → statement_broken names (Loop typed name start cond step body place) scope ≡ earlier (head_broken names scope typed name start cond step place) (statements_broken names (inside scope name.name) body)
broken-loop names scope typed name start cond step body place =
    ap (λ f. f scope) (broken_loop names typed name start cond step body place)
    ∙ ap (λ bs. earlier (head_broken names scope typed name start cond step place) (first_of bs)) (applied_each (statement_broken names) (inside scope name.name) body)

broken_branch : (names : List Entry) (cond : List Part) (taken other : List Statement) (place : Place)
    → statement_broken names (Branch cond taken other place) ≡ (λ scope. earlier (condition_broken names scope cond) (earlier (first_in scope (map (statement_broken names) taken)) (first_in scope (map (statement_broken names) other))))
unfolding statement_broken
broken_branch names cond taken other place = search (rules, the_lemmas)

pub broken-branch : (names : List Entry) (scope : Scope) (cond : List Part) (taken other : List Statement) (place : Place)
    → statement_broken names (Branch cond taken other place) scope ≡ earlier (condition_broken names scope cond) (earlier (statements_broken names scope taken) (statements_broken names scope other))
broken-branch names scope cond taken other place =
    ap (λ f. f scope) (broken_branch names cond taken other place)
    ∙ rw (applied_each (statement_broken names) scope taken, applied_each (statement_broken names) scope other) refl

broken_assign : (names : List Entry) (target : Word) (subs : List Expr) (operator : Option Operator) (e : Expr)
    → statement_broken names (Assign target subs operator e) ≡ (λ scope. assignment_broken names scope target subs operator e)
unfolding statement_broken
broken_assign names target subs operator e = search (rules, the_lemmas)

pub broken-assign : (names : List Entry) (scope : Scope) (target : Word) (subs : List Expr) (operator : Option Operator) (e : Expr)
    → statement_broken names (Assign target subs operator e) scope ≡ assignment_broken names scope target subs operator e
broken-assign names scope target subs operator e = ap (λ f. f scope) (broken_assign names target subs operator e)

pub ruleset breaking = (broken-loop, broken-branch, broken-assign)

flat_map_all : {A B : Type 0} (f : A → List B) (xs : List A) → flat_map (λ (ys : List B). ys) (map f xs) ≡ flat_map f xs
flat_map_all f [] = refl
flat_map_all f (x ∷ xs) = ap (λ ys. f x ++ ys) (flat_map_all f xs)

pub targets-loop : (typed : Bool) (name : Word) (start : Expr) (cond : List Part) (step : Step) (body : List Statement) (place : Place)
    → targets (Loop typed name start cond step body place) ≡ all_targets body
unfolding targets
targets-loop typed name start cond step body place = search (rules, the_lemmas, flat_map_all)

pub targets-branch : (cond : List Part) (taken other : List Statement) (place : Place) → targets (Branch cond taken other place) ≡ all_targets taken ++ all_targets other
unfolding targets
targets-branch cond taken other place = search (rules, the_lemmas, flat_map_all)

pub targets-assign : (target : Word) (subs : List Expr) (operator : Option Operator) (e : Expr) → targets (Assign target subs operator e) ≡ target.place ∷ []
unfolding targets
targets-assign target subs operator e = search (rules, the_lemmas)

pub ruleset targeting = (targets-loop, targets-branch, targets-assign)

stmt_loop : (names : List Entry) (typed : Bool) (name : Word) (start : Expr) (cond : List Part) (step : Step) (body : List Statement) (place : Place)
    → stmt names (Loop typed name start cond step body place) ≡ (λ scope. s.For name.name (index names (in_start scope typed name.name) start) (record { parts = condition names (in_test scope name.name) cond }) (step_number step) (each_in (inside scope name.name) (map (stmt names) body)) place)
unfolding stmt
stmt_loop names typed name start cond step body place = search (rules, the_lemmas)

pub stmt-loop : (names : List Entry) (scope : Scope) (typed : Bool) (name : Word) (start : Expr) (cond : List Part) (step : Step) (body : List Statement) (place : Place)
    → stmt names (Loop typed name start cond step body place) scope ≡ s.For name.name (index names (in_start scope typed name.name) start) (record { parts = condition names (in_test scope name.name) cond }) (step_number step) (stmts names (inside scope name.name) body) place
stmt-loop names scope typed name start cond step body place =
    ap (λ f. f scope) (stmt_loop names typed name start cond step body place) ∙ rw (applied_each (stmt names) (inside scope name.name) body) refl

stmt_branch : (names : List Entry) (cond : List Part) (taken other : List Statement) (place : Place)
    → stmt names (Branch cond taken other place) ≡ (λ scope. s.If (record { parts = condition names scope cond }) (each_in scope (map (stmt names) taken)) (each_in scope (map (stmt names) other)) place)
unfolding stmt
stmt_branch names cond taken other place = search (rules, the_lemmas)

pub stmt-branch : (names : List Entry) (scope : Scope) (cond : List Part) (taken other : List Statement) (place : Place)
    → stmt names (Branch cond taken other place) scope ≡ s.If (record { parts = condition names scope cond }) (stmts names scope taken) (stmts names scope other) place
stmt-branch names scope cond taken other place =
    ap (λ f. f scope) (stmt_branch names cond taken other place) ∙ rw (applied_each (stmt names) scope taken, applied_each (stmt names) scope other) refl

stmt_assign : (names : List Entry) (target : Word) (subs : List Expr) (operator : Option Operator) (e : Expr)
    → stmt names (Assign target subs operator e) ≡ (λ scope. s.Assign (array_number (meaning names scope target.name)) (map (index names scope) subs) (assigned_value names scope target subs operator e) target.place)
unfolding stmt
stmt_assign names target subs operator e = search (rules, the_lemmas)

pub stmt-assign : (names : List Entry) (scope : Scope) (target : Word) (subs : List Expr) (operator : Option Operator) (e : Expr)
    → stmt names (Assign target subs operator e) scope ≡ s.Assign (array_number (meaning names scope target.name)) (map (index names scope) subs) (assigned_value names scope target subs operator e) target.place
stmt-assign names scope target subs operator e = ap (λ f. f scope) (stmt_assign names target subs operator e)

pub ruleset stating = (stmt-loop, stmt-branch, stmt-assign)
