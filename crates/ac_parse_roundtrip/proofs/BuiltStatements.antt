-- The statements of the program of a text that breaks no rule have words and names.
use Rattle.std.specs.Prelude.{◌≡◌, ◌≤◌, ◌^◌, Bool, true, false, ℕ, zero, suc, pos, neg_ℤ, nat_lt, List, [], ◌∷◌, map, length, Option, None, if◌then◌else◌}
use Rattle.std.specs.List.{AllByRecursion}
use Rattle.std.proofs.Common.{sym, ◌∙◌, subst, arith}
use Rattle.std.proofs.lemmas.Bool.Decides.{nat_tests}
use Rattle.ac_syntax.specs.Small.{IsSmall}
use Rattle.ac_syntax.specs.declared.tree.Array.{Array}
use Rattle.ac_syntax.specs.declared.tree.Place.{Place}
use Rattle.ac_lex.specs.Lexemes.{Lexeme}
use Rattle.ac_parse_grammar.specs.declared.tree.Word.{Word}
use Rattle.ac_parse_grammar.specs.declared.tree.Operator.{Operator}
use Rattle.ac_parse_grammar.specs.declared.tree.Part.{Part}
use Rattle.ac_parse_grammar.specs.declared.tree.Step.{Step}
use Rattle.ac_parse_grammar.specs.declared.tree.Expr.{Expr}
use Rattle.ac_parse_grammar.specs.declared.tree.Statement.{Statement}
use Rattle.ac_parse_grammar.specs.declared.tree.Statement.TheVariants as statement
use Rattle.ac_parse_grammar.specs.StatementsGrammar.{IsStatements}
use Rattle.ac_parse_exprs.specs.declared.fault.Which.TheVariants as which
use Rattle.ac_parse_exprs.specs.declared.fault.Rule.TheVariants.{Endless, Limit}
use Rattle.ac_parse_exprs.specs.declared.scope.Entry.{Entry}
use Rattle.ac_parse_exprs.specs.declared.scope.Scope.{Scope}
use Rattle.ac_parse_exprs.specs.FaultOrder.{earlier, broken_where, rule_broken}
use Rattle.ac_parse_exprs.specs.Meanings.{meaning}
use Rattle.ac_parse_exprs.specs.IndexExpressions.{is_long}
use Rattle.ac_parse_exprs.specs.Comparisons.{index, index_broken, condition, condition_broken}
use Rattle.ac_parse_exprs.specs.Values.{array_number}
use Rattle.ac_parse_rules.specs.Statements.{inside, in_test, in_start, loop_rule, step_broken, step_number, is_endless, head_broken, assigned_value, statement_broken, statements_broken, stmt, stmts}
use Rattle.ac_parse_exprs.proofs.Absent.{NoneBroken, neither, none_of, not_where}
use Rattle.ac_parse_rules.proofs.Stepping.{broken-loop, broken-branch, stmt-loop, stmt-branch, stmt-assign}
use Rattle.ac_parse_roundtrip.specs.GrammarPrograms.{HasSome}
use Rattle.ac_parse_roundtrip.specs.TokenSpelling.{AreSpelled}
use Rattle.ac_parse_roundtrip.proofs.NameTerminals.{IsNamed}
use Rattle.ac_parse_roundtrip.proofs.Expressions.{HasPart}
use Rattle.ac_parse_roundtrip.proofs.StatementInduction.{statements_have}
use Rattle.ac_parse_roundtrip.proofs.NamedValues.{AreNamedArrays}
use Rattle.ac_parse_roundtrip.proofs.Readings.{IsNamedExpr, expr_named, assigned_named}
use Rattle.ac_parse_roundtrip.proofs.NamedStatements.{IsNamedStmt, loop_named, branch_named, assign_named}

-- ---- steps

not_long : (n : ℕ) → nat_lt 2147483648 n ≡ false → n ≤ 2 ^ 31
not_long n h = grind (arith, nat_tests)

small_negative : (n : ℕ) → n ≤ 2 ^ 31 → IsSmall (neg_ℤ (pos n))
small_negative zero h = omega arith
small_negative (suc n) h = omega (arith, h)

small_step : (step : Step) → is_long step.by ≡ false → IsSmall (step_number step)
small_step step h = by step.down (not_long step.by.number h)
  where
    by : (down : Bool) → step.by.number ≤ 2 ^ 31 → IsSmall (if down then neg_ℤ (pos step.by.number) else pos step.by.number)
    by true l = small_negative step.by.number l
    by false l = l

step_small : (entries : List Entry) (scope : Scope) (name : List ℕ) (step : Step) → step_broken entries scope name step ≡ None → IsSmall (step_number step)
step_small entries scope name step h = small_step step (not_where (is_long step.by) (Limit which.Literal) step.by.place (neither _ _ h).1)

head_step : (entries : List Entry) (scope : Scope) (typed : Bool) (name : Word) (start : Expr) (cond : List Part) (step : Step) (place : Place) → head_broken entries scope typed name start cond step place ≡ None
    → IsSmall (step_number step)
head_step entries scope typed name start cond step place h =
    let own = in_test scope name.name in
    let n = neither
    (earlier (broken_where (nat_lt 5 (length scope.iterators)) (Limit which.Depth) place) (broken_where (is_endless entries own step cond) Endless place))
    (earlier (earlier (rule_broken (loop_rule entries scope typed name.name) name.place) (index_broken entries (in_start scope typed name.name) start))
    (earlier (condition_broken entries own cond) (step_broken entries own name.name step))) h in
    let m = neither
    (earlier (rule_broken (loop_rule entries scope typed name.name) name.place) (index_broken entries (in_start scope typed name.name) start))
    (earlier (condition_broken entries own cond) (step_broken entries own name.name step)) n.1 in
    let k = neither (condition_broken entries own cond) (step_broken entries own name.name step) m.1 in
    step_small entries own name.name step k.1

-- ---- conditions

some_compared : (entries : List Entry) (scope : Scope) (parts : List Part) → HasPart parts → HasSome (condition entries scope parts)
some_compared entries scope [] h = absurd h
some_compared entries scope (part ∷ parts) h = tt

-- ---- statements

module _ (arrays : List Array) (named : AreNamedArrays arrays) where
  -- the statement that the rules make of one that breaks none is named
  abbrev IsBuilt : Statement → Type 0
  IsBuilt x = (entries : List Entry) (scope : Scope) → statement_broken entries x scope ≡ None → IsNamedStmt arrays named (stmt entries x scope)

  each_built : (entries : List Entry) (scope : Scope) (xs : List Statement) → AllByRecursion IsBuilt xs → NoneBroken (map (λ (x : Statement). statement_broken entries x scope) xs)
      → AllByRecursion (IsNamedStmt arrays named) (stmts entries scope xs)
  each_built entries scope [] h none = tt
  each_built entries scope (x ∷ xs) h none = (h.0 entries scope none.0, each_built entries scope xs h.1 none.1)

  body_built : (entries : List Entry) (scope : Scope) (xs : List Statement) → AllByRecursion IsBuilt xs → statements_broken entries scope xs ≡ None
      → AllByRecursion (IsNamedStmt arrays named) (stmts entries scope xs)
  body_built entries scope xs h none = each_built entries scope xs h (none_of (map (λ (x : Statement). statement_broken entries x scope) xs) none)

  loop_built : (typed : Bool) (name : Word) (start : Expr) (cond : List Part) (step : Step) (body : List Statement) (place : Place)
      → IsNamed name.name → HasPart cond → AllByRecursion IsBuilt body → IsBuilt (statement.Loop typed name start cond step body place)
  loop_built typed name start cond step body place is some h entries scope none =
      let n = neither (head_broken entries scope typed name start cond step place) (statements_broken entries (inside scope name.name) body) (sym (broken-loop entries scope typed name start cond step body place) ∙ none) in
      subst (IsNamedStmt arrays named) (sym (stmt-loop entries scope typed name start cond step body place))
      (loop_named arrays named name.name (index entries (in_start scope typed name.name) start) (record { parts = condition entries (in_test scope name.name) cond }) (step_number step)
      (stmts entries (inside scope name.name) body) place is (some_compared entries (in_test scope name.name) cond some) (head_step entries scope typed name start cond step place n.0)
      (body_built entries (inside scope name.name) body h n.1))

  branch_built : (cond : List Part) (taken other : List Statement) (place : Place) → HasPart cond → AllByRecursion IsBuilt taken → AllByRecursion IsBuilt other
      → IsBuilt (statement.Branch cond taken other place)
  branch_built cond taken other place some h k entries scope none =
      let n = neither (condition_broken entries scope cond) (earlier (statements_broken entries scope taken) (statements_broken entries scope other)) (sym (broken-branch entries scope cond taken other place) ∙ none) in
      let m = neither (statements_broken entries scope taken) (statements_broken entries scope other) n.1 in
      subst (IsNamedStmt arrays named) (sym (stmt-branch entries scope cond taken other place))
      (branch_named arrays named (record { parts = condition entries scope cond }) (stmts entries scope taken) (stmts entries scope other) place (some_compared entries scope cond some)
      (body_built entries scope taken h m.0) (body_built entries scope other k m.1))

  assign_built : (target : Word) (subs : List Expr) (operator : Option Operator) (e : Expr) → IsNamedExpr arrays named e → IsBuilt (statement.Assign target subs operator e)
  assign_built target subs operator e h entries scope none =
      subst (IsNamedStmt arrays named) (sym (stmt-assign entries scope target subs operator e))
      (assign_named arrays named (array_number (meaning entries scope target.name)) (map (index entries scope) subs) (assigned_value entries scope target subs operator e) target.place
      (assigned_named arrays named entries scope target subs operator e h))

  pub statements_named : {room : ℕ} {ts : List Lexeme} {xs : List Statement} → IsStatements room ts xs → AreSpelled ts → (entries : List Entry) (scope : Scope)
      → statements_broken entries scope xs ≡ None → AllByRecursion (IsNamedStmt arrays named) (stmts entries scope xs)
  statements_named {xs = xs} are h entries scope none =
      body_built entries scope xs (statements_have (IsNamedExpr arrays named) IsBuilt (expr_named arrays named) loop_built branch_built assign_built are h) none
