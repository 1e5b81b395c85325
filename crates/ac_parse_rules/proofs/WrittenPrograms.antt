-- The program of a file that breaks no rule does what the file says.
use Rattle.std.proofs.Common.{◌≡◌, ℤ, pos, List, [], ◌∷◌, map, length, Bool, cond, ◌==◌, refl, sym, subst, ◌∙◌, Option, Some, None}
use Rattle.std.specs.Option.{option_map}
use Rattle.std.specs.List.{AllByRecursion}
use Rattle.std.proofs.lemmas.List.{length-map}
use Rattle.ac_syntax.specs.Algebra.{Cell, value_of}
use Rattle.ac_syntax.specs.Index.{Point, index_value}
use Rattle.ac_syntax.specs.Term.{Term, Num, free}
use Rattle.ac_syntax.specs.declared.tree.Place.{Place}
use Rattle.ac_parse_grammar.specs.declared.tree.Word.{Word}
use Rattle.ac_parse_grammar.specs.declared.tree.Operator.{Operator}
use Rattle.ac_parse_grammar.specs.declared.tree.Part.{Part}
use Rattle.ac_parse_grammar.specs.declared.tree.Step.{Step}
use Rattle.ac_parse_grammar.specs.declared.tree.Expr.{Expr}
use Rattle.ac_parse_grammar.specs.declared.tree.Statement.{Statement}
use Rattle.ac_parse_grammar.specs.declared.tree.Statement.TheVariants.{Loop, Branch, Assign}
use Rattle.ac_parse_exprs.specs.declared.fault.Broken.{Broken}
use Rattle.ac_parse_exprs.specs.declared.scope.Entry.{Entry}
use Rattle.ac_parse_exprs.specs.declared.scope.Meaning.{Meaning}
use Rattle.ac_parse_exprs.specs.declared.scope.Meaning.TheVariants as means
use Rattle.ac_parse_exprs.specs.declared.scope.Scope.{Scope}
use Rattle.ac_parse_exprs.specs.FaultOrder.{earlier}
use Rattle.ac_parse_exprs.specs.Comparisons.{first_from, index, index_broken, condition, condition_broken}
use Rattle.ac_parse_rules.specs.Declarations.{param_count, input_count, fixed_scope}
use Rattle.ac_parse_exprs.specs.Meanings.{meaning}
use Rattle.ac_parse_rules.specs.Statements.{inside, in_test, in_start, head_broken, target_rule, assigned_value, statement_broken, statements_broken, stmt, stmts}
use Rattle.ac_parse_exprs.specs.Values.{value, value_broken, array_number, read_of, access_broken}
use Rattle.ac_parse_rules.specs.Files.{context_parts, body_scope, names_of}
use Rattle.ac_parse_exprs.specs.WrittenValues.{integer_of, expression_value}
use Rattle.ac_parse_exprs.specs.WrittenTerms.{all_of, cell_of, as_term, written, target_cell, assigned_term}
use Rattle.ac_parse_exprs.specs.FormValues.{AreNumbered, IsPointOf}
use Rattle.ac_parse_rules.specs.LawsOfPrograms.{IsIndexOf, IsConditionOf, IsStatementOf, loop, branch, assignment, AreStatementsOf, no_statement, one_more, ProgramsDoAsWritten}
use Rattle.ac_parse_exprs.proofs.Absent.{NoneBroken, neither, none_of, each, each_of_map}
use Rattle.ac_parse_exprs.proofs.Accesses.{rule_holds}
use Rattle.ac_parse_rules.proofs.NumberedNames.{files_are_numbered}
use Rattle.ac_parse_rules.proofs.UnbrokenParts.{context_none}
use Rattle.ac_parse_rules.proofs.Stepping.{broken-loop, broken-branch, broken-assign, stmt-loop, stmt-branch, stmt-assign}
use Rattle.ac_parse_exprs.proofs.Trees.{every_statement}
use Rattle.ac_parse_exprs.proofs.WrittenConditions.{conditions_hold}
use Rattle.ac_parse_exprs.proofs.WrittenExpressions.{indices_have_values}
use Rattle.ac_parse_exprs.proofs.WrittenTerms.{with_all, access_term, both_applied, subscripts_there, value_says}

-- a target in which no rule is broken is the cell of an array
target_there : (m : Meaning) (subs : List (Option ℤ)) (at : List ℤ) → target_rule m (length subs) ≡ None → all_of subs ≡ Some at → cell_of m subs ≡ Some (record { array = array_number m; at = at })
target_there (means.Parameter k) subs at h e = absurd cc
target_there (means.Iterator k) subs at h e = absurd cc
target_there (means.Array k dimensions) subs at h e = with_all k (all_of subs) at (length subs == dimensions) e h
target_there means.LoopName subs at h e = absurd cc
target_there means.OwnStart subs at h e = absurd cc
target_there means.Nothing subs at h e = absurd cc

module _ (names : List Entry) (scope : Scope) (a : AreNumbered scope.params names) where
  index_as : (e : Expr) → index_broken names scope e ≡ None → IsIndexOf names scope e (index names scope e)
  index_as e b p o = indices_have_values names scope p a o e b

  condition_as : (parts : List Part) → condition_broken names scope parts ≡ None → IsConditionOf names scope parts (record { parts = condition names scope parts })
  condition_as parts b p o = conditions_hold names scope p a o parts b

  target_as : (target : Word) (subs : List Expr) → access_broken names scope (target_rule (meaning names scope target.name) (length subs)) target subs ≡ None → (p : Point) → IsPointOf scope p
      → target_cell names scope p target subs ≡ Some (record { array = array_number (meaning names scope target.name); at = map (index_value p) (map (index names scope) subs) })
  target_as target subs b p o =
      let m = meaning names scope target.name in
      let e = length-map subs (expression_value (integer_of names scope p)) in
      target_there m (map (expression_value (integer_of names scope p)) subs) (map (index_value p) (map (index names scope) subs))
      (subst (λ n. target_rule m n ≡ None) (sym e) (rule_holds names scope (target_rule m (length subs)) target subs b))
      (subscripts_there names scope p (λ c. Num (pos 0)) a o (target_rule m (length subs)) target subs b)

  assigned_as : (target : Word) (subs : List Expr) (operator : Option Operator) (e : Expr) → access_broken names scope (target_rule (meaning names scope target.name) (length subs)) target subs ≡ None
      → value_broken names scope e ≡ None → (p : Point) (state : Cell → Term) → IsPointOf scope p
      → assigned_term names scope p state target subs operator e ≡ Some (value_of free p state (assigned_value names scope target subs operator e))
  assigned_as target subs None e b c p state o = value_says names scope p state a o e c
  assigned_as target subs (Some op) e b c p state o =
      let m = meaning names scope target.name in
      let x = read_of names scope m target subs in
      let h : option_map state (target_cell names scope p target subs) ≡ Some (value_of free p state x) =
      rw (target_as target subs b p o, access_term p state (array_number m) (map (index names scope) subs) target.place) refl in
      both_applied p state op x (value names scope e) (option_map state (target_cell names scope p target subs)) (as_term (written names scope p state e)) h (value_says names scope p state a o e c)

abbrev IsAs : List Entry → Statement → Type 0
IsAs names s = (scope : Scope) → AreNumbered scope.params names → statement_broken names s scope ≡ None → IsStatementOf names scope s (stmt names s scope)

each_as : (names : List Entry) (scope : Scope) → AreNumbered scope.params names → (ss : List Statement) → AllByRecursion (IsAs names) ss → AllByRecursion (λ s. statement_broken names s scope ≡ None) ss
    → AreStatementsOf names scope ss (stmts names scope ss)
each_as names scope a [] h b = no_statement
each_as names scope a (s ∷ ss) h b = one_more (h.0 scope a b.0) (each_as names scope a ss h.1 b.1)

block_as : (names : List Entry) (scope : Scope) → AreNumbered scope.params names → (ss : List Statement) → AllByRecursion (IsAs names) ss → statements_broken names scope ss ≡ None
    → AreStatementsOf names scope ss (stmts names scope ss)
block_as names scope a ss h b = each_as names scope a ss h (each_of_map (λ s. statement_broken names s scope) (λ c. c ≡ None) ss (none_of (map (λ s. statement_broken names s scope) ss) b))

loop_as : (names : List Entry) (typed : Bool) (name : Word) (start : Expr) (cond : List Part) (step : Step) (body : List Statement) (place : Place) → AllByRecursion (IsAs names) body → IsAs names (Loop typed name start cond step body place)
loop_as names typed name start cond step body place h scope a b =
    let n = neither (head_broken names scope typed name start cond step place) (statements_broken names (inside scope name.name) body) (sym (broken-loop names scope typed name start cond step body place) ∙ b) in
    let m = neither _ _ (neither _ _ n.0).1 in
    let s = (neither _ _ m.0).1 in
    let c = (neither _ _ m.1).0 in
    subst (IsStatementOf names scope (Loop typed name start cond step body place)) (sym (stmt-loop names scope typed name start cond step body place))
    (loop {typed = typed} {name = name} {start = start} {cond = cond} {step = step} {body = body} {place = place} (index_as names (in_start scope typed name.name) a start s) (condition_as names (in_test scope name.name) a cond c) (block_as names (inside scope name.name) a body h n.1))

branch_as : (names : List Entry) (cond : List Part) (taken other : List Statement) (place : Place) → AllByRecursion (IsAs names) taken → AllByRecursion (IsAs names) other → IsAs names (Branch cond taken other place)
branch_as names cond taken other place h k scope a b =
    let n = neither (condition_broken names scope cond) (earlier (statements_broken names scope taken) (statements_broken names scope other)) (sym (broken-branch names scope cond taken other place) ∙ b) in
    let m = neither (statements_broken names scope taken) (statements_broken names scope other) n.1 in
    subst (IsStatementOf names scope (Branch cond taken other place)) (sym (stmt-branch names scope cond taken other place))
    (branch {cond = cond} {taken = taken} {other = other} {place = place} (condition_as names scope a cond n.0) (block_as names scope a taken h m.0) (block_as names scope a other k m.1))

assign_as : (names : List Entry) (target : Word) (subs : List Expr) (operator : Option Operator) (e : Expr) → IsAs names (Assign target subs operator e)
assign_as names target subs operator e scope a b =
    let n = neither _ _ (sym (broken-assign names scope target subs operator e) ∙ b) in
    let m = neither _ _ n.0 in
    subst (IsStatementOf names scope (Assign target subs operator e)) (sym (stmt-assign names scope target subs operator e))
    (assignment {target = target} {subs = subs} {operator = operator} {e = e} (record { cell = target_as names scope a target subs m.0; term = assigned_as names scope a target subs operator e m.0 m.1 }))

statement_as : (names : List Entry) (s : Statement) → IsAs names s
statement_as names = every_statement (IsAs names) (loop_as names) (branch_as names) (assign_as names)

statements_as : (names : List Entry) (scope : Scope) → AreNumbered scope.params names → (ss : List Statement) → statements_broken names scope ss ≡ None → AreStatementsOf names scope ss (stmts names scope ss)
statements_as names scope a ss b = block_as names scope a ss (each (IsAs names) (statement_as names) ss) b

-- none of several is broken
all_none : (cs : List (Option Broken)) → NoneBroken cs → first_from None cs ≡ None
all_none [] h = refl
all_none (c ∷ cs) h = rw h.0 (all_none cs h.1)

pub programs_do_as_written : ProgramsDoAsWritten
programs_do_as_written file h =
    let names = names_of file in
    let scope = fixed_scope (param_count file.params) in
    let a = (files_are_numbered file).0 in
    let n = neither _ _ h in
    let m = neither _ _ n.1 in
    let s = neither _ _ m.0 in
    record {
      body = statements_as names (body_scope (param_count file.params)) a file.body s.0;
      context = condition_as names scope a (context_parts file.pragmas) (all_none _ (context_none names scope (input_count file.params) file.pragmas (none_of _ m.1)));
    }
