-- Statements of a text of which no assignment has too many quotients.
use Rattle.std.proofs.Common.{◌≡◌, ℕ, ℤ, ◌||◌, Bool, true, false, List, [], ◌∷◌, map, length, nat_lt, refl, sym, ap, ◌∙◌, rules, Option, None}
use Rattle.std.specs.List.{AllByRecursion, list_any}
use Rattle.ac_syntax.specs.Quotients.{noted_form, noted_subs, noted_parts, noted_value}
use Rattle.ac_syntax.specs.declared.tree.Place.{Place}
use Rattle.ac_syntax.specs.declared.tree.Quot.{Quot}
use Rattle.ac_syntax.specs.declared.tree.Cond.{Cond}
use Rattle.ac_syntax.specs.declared.tree.IndexExpr.{IndexExpr}
use Rattle.ac_syntax.specs.declared.tree.Value.{Value}
use Rattle.ac_syntax.specs.declared.tree.Stmt.{Stmt, Row_of-Stmt, end_of-Stmt, more_of-Stmt, items-the_row-Stmt, the_lemmas}
use Rattle.ac_syntax.specs.declared.tree.Stmt.TheVariants as s
use Rattle.ac_parse_grammar.specs.declared.tree.Word.{Word}
use Rattle.ac_parse_grammar.specs.declared.tree.Step.{Step}
use Rattle.ac_parse_grammar.specs.declared.tree.Part.{Part}
use Rattle.ac_parse_grammar.specs.declared.tree.Operator.{Operator}
use Rattle.ac_parse_grammar.specs.declared.tree.Expr.{Expr}
use Rattle.ac_parse_grammar.specs.declared.tree.Statement.{Statement}
use Rattle.ac_parse_grammar.specs.declared.tree.Statement.TheVariants.{Loop, Branch, Assign}
use Rattle.ac_parse_exprs.specs.declared.fault.Which.TheVariants.{Quotients}
use Rattle.ac_parse_exprs.specs.declared.fault.Rule.TheVariants.{Limit}
use Rattle.ac_parse_exprs.specs.declared.scope.Entry.{Entry}
use Rattle.ac_parse_exprs.specs.declared.scope.Scope.{Scope}
use Rattle.ac_parse_exprs.specs.Comparisons.{condition}
use Rattle.ac_parse_exprs.proofs.Absent.{NoneBroken, each, neither, none_of, not_where}
use Rattle.ac_parse_exprs.proofs.Trees.{every_statement}
use Rattle.ac_parse_rules.specs.Statements.{inside, stmt, stmts}
use Rattle.ac_parse_rules.specs.FewQuotients.{loop_noted, assignment_noted, crowded, all_crowded}
use Rattle.ac_parse_rules.proofs.Noting.{crowded-loop, crowded-branch, crowded-assign}
use Rattle.ac_parse_rules.proofs.Stepping.{stmt-loop, stmt-branch, stmt-assign}
use Rattle.ac_parse_roundtrip.specs.CanonicalPrograms.{is_crowded, is_crowded_in}

-- ---- over lists of statements

row_crowded : (seen : List Quot) (m : _) (body : Row_of-Stmt m) → is_crowded_in seen body ≡ list_any (is_crowded seen) (items-the_row-Stmt m body)
unfolding is_crowded
row_crowded seen m end_of-Stmt = refl
row_crowded seen m (more_of-Stmt {n = n} x rest) = ap (λ b. is_crowded seen x || b) (row_crowded seen n rest)

for_row : (seen : List Quot) (iter : List ℕ) (start : IndexExpr) (cond : Cond) (step : ℤ) (n : _) (body : Row_of-Stmt _) (place : Place)
    → is_crowded seen (s.For' iter start cond step n body place) ≡ list_any (is_crowded (noted_parts (noted_form seen start) cond.parts)) (items-the_row-Stmt _ body)
unfolding is_crowded
for_row seen iter start cond step n body place = row_crowded (noted_parts (noted_form seen start) cond.parts) _ body

crowded_for : (seen : List Quot) (iter : List ℕ) (start : IndexExpr) (cond : Cond) (step : ℤ) (body : List Stmt) (place : Place)
    → is_crowded seen (s.For iter start cond step body place) ≡ list_any (is_crowded (noted_parts (noted_form seen start) cond.parts)) body
crowded_for seen iter start cond step body place = search (rules, the_lemmas, for_row)

if_row : (seen : List Quot) (cond : Cond) (n : _) (taken : Row_of-Stmt _) (m : _) (other : Row_of-Stmt _) (place : Place)
    → is_crowded seen (s.If' cond n taken m other place)
    ≡ (list_any (is_crowded (noted_parts seen cond.parts)) (items-the_row-Stmt _ taken) || list_any (is_crowded (noted_parts seen cond.parts)) (items-the_row-Stmt _ other))
unfolding is_crowded
if_row seen cond n taken m other place = rw (row_crowded (noted_parts seen cond.parts) _ taken, row_crowded (noted_parts seen cond.parts) _ other) refl

crowded_if : (seen : List Quot) (cond : Cond) (taken other : List Stmt) (place : Place)
    → is_crowded seen (s.If cond taken other place) ≡ (list_any (is_crowded (noted_parts seen cond.parts)) taken || list_any (is_crowded (noted_parts seen cond.parts)) other)
crowded_if seen cond taken other place = search (rules, the_lemmas, if_row)

crowded_assign : (seen : List Quot) (array : ℕ) (subs : List IndexExpr) (v : Value) (place : Place) → is_crowded seen (s.Assign array subs v place) ≡ nat_lt 8 (length (noted_subs (noted_value seen v) subs))
unfolding is_crowded
crowded_assign seen array subs v place = refl

both_false : (a b : Bool) → a ≡ false → b ≡ false → (a || b) ≡ false
both_false true b h k = absurd cc
both_false false b h k = k

module _ (names : List Entry) where
  abbrev IsFew : Statement → Type 0
  IsFew x = (scope : Scope) (seen : List Quot) → crowded names x scope seen ≡ None → is_crowded seen (stmt names x scope) ≡ false

  all_few : (scope : Scope) (seen : List Quot) (xs : List Statement) → AllByRecursion IsFew xs → NoneBroken (map (λ x. crowded names x scope seen) xs) → list_any (is_crowded seen) (stmts names scope xs) ≡ false
  all_few scope seen [] h none = refl
  all_few scope seen (x ∷ xs) h none =
      both_false (is_crowded seen (stmt names x scope)) (list_any (is_crowded seen) (stmts names scope xs)) (h.0 scope seen none.0) (all_few scope seen xs h.1 none.1)

  body_few : (scope : Scope) (seen : List Quot) (xs : List Statement) → AllByRecursion IsFew xs → all_crowded names scope seen xs ≡ None → list_any (is_crowded seen) (stmts names scope xs) ≡ false
  body_few scope seen xs h none = all_few scope seen xs h (none_of (map (λ x. crowded names x scope seen) xs) none)

  loop_few : (typed : Bool) (name : Word) (start : Expr) (cond : List Part) (step : Step) (body : List Statement) (place : Place) → AllByRecursion IsFew body → IsFew (Loop typed name start cond step body place)
  loop_few typed name start cond step body place h scope seen none =
      ap (is_crowded seen) (stmt-loop names scope typed name start cond step body place) ∙ crowded_for seen _ _ _ _ _ _
      ∙ body_few (inside scope name.name) (loop_noted names scope typed name start cond seen) body h (sym (crowded-loop names scope seen typed name start cond step body place) ∙ none)

  branch_few : (cond : List Part) (taken other : List Statement) (place : Place) → AllByRecursion IsFew taken → AllByRecursion IsFew other → IsFew (Branch cond taken other place)
  branch_few cond taken other place h k scope seen none =
      let around = noted_parts seen (condition names scope cond) in
      let n = neither (all_crowded names scope around taken) (all_crowded names scope around other) (sym (crowded-branch names scope seen cond taken other place) ∙ none) in
      ap (is_crowded seen) (stmt-branch names scope cond taken other place) ∙ crowded_if seen _ _ _ _
      ∙ both_false (list_any (is_crowded around) (stmts names scope taken)) (list_any (is_crowded around) (stmts names scope other)) (body_few scope around taken h n.0) (body_few scope around other k n.1)

  assign_few : (target : Word) (subs : List Expr) (operator : Option Operator) (e : Expr) → IsFew (Assign target subs operator e)
  assign_few target subs operator e scope seen none =
      ap (is_crowded seen) (stmt-assign names scope target subs operator e) ∙ crowded_assign seen _ _ _ _
      ∙ not_where (nat_lt 8 (length (assignment_noted names scope target subs operator e seen))) (Limit Quotients) target.place (sym (crowded-assign names scope seen target subs operator e) ∙ none)

  few : (x : Statement) → IsFew x
  few = every_statement IsFew loop_few branch_few assign_few

  -- no assignment is crowded where no rule is broken
  pub few_quotients : (scope : Scope) (body : List Statement) → all_crowded names scope [] body ≡ None → list_any (is_crowded []) (stmts names scope body) ≡ false
  few_quotients scope body h = body_few scope [] body (each IsFew few body) h
