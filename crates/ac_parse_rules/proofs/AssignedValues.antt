-- The value that an assignment assigns: what holds of each value of an expression holds of it, and its nodes are counted with those of
-- the right side.
use Rattle.std.proofs.Common.{◌≡◌, ℕ, ℤ, ◌+◌, ◌≤◌, List, [], ◌∷◌, map, length, refl, ap, ◌∙◌, arith, Bool, true, false, nat_lt, Option, Some, None}
use Rattle.std.proofs.lemmas.Bool.Decides.{nat_tests}
use Rattle.std.specs.List.{AllByRecursion}
use Rattle.ac_syntax.specs.ValueNodes.{size}
use Rattle.ac_syntax.specs.declared.tree.Place.{Place}
use Rattle.ac_syntax.specs.declared.tree.Quot.{Quot}
use Rattle.ac_syntax.specs.declared.tree.Symbol.{Symbol}
use Rattle.ac_syntax.specs.declared.tree.Value.{Value}
use Rattle.ac_syntax.specs.declared.tree.Value.TheVariants as v
use Rattle.ac_syntax.proofs.Sizes.{size_access}
use Rattle.ac_parse_grammar.specs.declared.tree.Word.{Word}
use Rattle.ac_parse_grammar.specs.declared.tree.Numeral.{Numeral}
use Rattle.ac_parse_grammar.specs.declared.tree.Operator.{Operator}
use Rattle.ac_parse_grammar.specs.declared.tree.Expr.{Expr}
use Rattle.ac_parse_exprs.specs.declared.form.Affine.{Affine}
use Rattle.ac_parse_exprs.specs.declared.index.Judged.{Judged}
use Rattle.ac_parse_exprs.specs.declared.scope.Entry.{Entry}
use Rattle.ac_parse_exprs.specs.declared.scope.Meaning.{Meaning}
use Rattle.ac_parse_exprs.specs.declared.scope.Scope.{Scope}
use Rattle.ac_parse_exprs.specs.Meanings.{meaning}
use Rattle.ac_parse_exprs.specs.AffineForms.{is_small}
use Rattle.ac_parse_exprs.specs.IndexExpressions.{quot_of}
use Rattle.ac_parse_exprs.specs.Comparisons.{index_expr, index}
use Rattle.ac_parse_exprs.proofs.Collecting.{Shaped}
use Rattle.ac_parse_exprs.specs.Values.{reading, value_place, placed, symbol, operator_name, array_number, read_of, value}
use Rattle.ac_parse_exprs.specs.Measures.{capped, measure, measured_nodes}
use Rattle.ac_parse_exprs.proofs.EachValue.{whole_has}
use Rattle.ac_parse_exprs.proofs.QuotientForms.{MayDivide, Hold}
use Rattle.ac_parse_exprs.proofs.Kept.{nodes_is, both_nodes, broken-measure, measured_few}
use Rattle.ac_parse_rules.specs.Statements.{assigned_value, extra_nodes}

module _ (names : List Entry) (scope : Scope) (Has : Value → Type 0)
    (P : Quot → Type 0) (keeps : (q : Quot) (c : ℤ) → is_small c ≡ true → P q → P (record q { coef = c })) (made : (up : Bool) (n : Numeral) (place : Place) (f : Affine) → MayDivide scope up n f → P (quot_of up n place f))
    (number_has : (j : Judged) → Shaped scope.params (length scope.iterators) j.form → Hold P keeps j.form → Has (v.Number (index_expr scope j)))
    (read_has : (m : Meaning) (word : Word) (subs : List Expr) → Has (read_of names scope m word subs))
    (call_has : (s : Symbol) (args : List Value) (place : Place) → AllByRecursion Has args → Has (v.Call s args place))
    (placed_has : (place : Place) (x : Value) → Has x → Has (placed place x)) where
  pub assigned_has : (target : Word) (subs : List Expr) (operator : Option Operator) (e : Expr) → Has (assigned_value names scope target subs operator e)
  assigned_has target subs None e = whole_has names scope Has P keeps made number_has read_has call_has placed_has e
  assigned_has target subs (Some op) e =
      let x = read_of names scope (meaning names scope target.name) target subs in
      call_has (symbol (operator_name op) 2) (x ∷ value names scope e ∷ []) (value_place x)
      (read_has (meaning names scope target.name) target subs, (whole_has names scope Has P keeps made number_has read_has call_has placed_has e, tt))

nat_lt_capped : (n k : ℕ) → k ≤ 2 → nat_lt 64 (n + k) ≡ nat_lt 64 (capped n + k)
nat_lt_capped n k h = lt_cases n k h (nat_lt 64 (n + k)) refl (nat_lt 64 (capped n + k)) refl
  where
    lt_cases : (n k : ℕ) → k ≤ 2 → (b : Bool) → nat_lt 64 (n + k) ≡ b → (d : Bool) → nat_lt 64 (capped n + k) ≡ d → b ≡ d
    lt_cases n k h true e true f = refl
    lt_cases n k h true e false f = absurd (grind (arith, nat_tests))
    lt_cases n k h false e true f = absurd (grind (arith, nat_tests))
    lt_cases n k h false e false f = refl

-- the nodes of the value of an assignment
pub nodes-measure : (names : List Entry) (scope : Scope) (target : Word) (subs : List Expr) (operator : Option Operator) (e : Expr)
    → nat_lt 64 (size (assigned_value names scope target subs operator e)) ≡ nat_lt 64 (measured_nodes (measure names scope e) + extra_nodes operator)
nodes-measure names scope target subs None e =
    rw (nodes_is scope (reading names scope e)) (ap (nat_lt 64) (zero_more (size (value names scope e))) ∙ nat_lt_capped (size (value names scope e)) 0 (omega arith))
  where
    zero_more : (n : ℕ) → n ≡ n + 0
    zero_more n = omega arith
nodes-measure names scope target subs (Some op) e =
    let n : size (assigned_value names scope target subs (Some op) e) ≡ size (value names scope e) + 2 =
    both_nodes op (read_of names scope (meaning names scope target.name) target subs) (value names scope e) ∙ rw (size_access (array_number (meaning names scope target.name)) (map (index names scope) subs) target.place) (omega arith) in
    rw (nodes_is scope (reading names scope e), n) (nat_lt_capped (size (value names scope e)) 2 (omega arith))

pub ruleset assigning = (broken-measure, nodes-measure, measured_few)
