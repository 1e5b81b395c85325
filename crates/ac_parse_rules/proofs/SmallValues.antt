-- Values whose index expressions are within the limits.
use Rattle.std.proofs.Common.{ℕ, List, map, Option, rules}
use Rattle.std.specs.List.{AllByRecursion}
use Rattle.ac_syntax.specs.Small.{IsSmallQuot, IsSmallForm, AreSmallForms, IsSmallValue, AreSmallValues}
use Rattle.ac_syntax.specs.declared.tree.Place.{Place}
use Rattle.ac_syntax.specs.declared.tree.Symbol.{Symbol}
use Rattle.ac_syntax.specs.declared.tree.IndexExpr.{IndexExpr}
use Rattle.ac_syntax.specs.declared.tree.Value.{Value, Row_of-Value, end_of-Value, more_of-Value, items-the_row-Value, the_lemmas}
use Rattle.ac_syntax.specs.declared.tree.Value.TheVariants.{Number, Access, Call, Call'}
use Rattle.ac_parse_grammar.specs.declared.tree.Word.{Word}
use Rattle.ac_parse_grammar.specs.declared.tree.Operator.{Operator}
use Rattle.ac_parse_grammar.specs.declared.tree.Expr.{Expr}
use Rattle.ac_parse_exprs.specs.declared.scope.Entry.{Entry}
use Rattle.ac_parse_exprs.specs.declared.scope.Scope.{Scope}
use Rattle.ac_parse_exprs.specs.Comparisons.{index_expr, index}
use Rattle.ac_parse_exprs.specs.Values.{placed, array_number}
use Rattle.ac_parse_rules.specs.Statements.{assigned_value}
use Rattle.ac_parse_rules.proofs.AssignedValues.{assigned_has}
use Rattle.ac_parse_exprs.proofs.SmallForms.{Few, other_coef, small_quot, small_index_expr, small_indices}

-- calls
of_row : (m : _) (k : Row_of-Value m) → AllByRecursion IsSmallValue (items-the_row-Value m k) → AreSmallValues k
unfolding IsSmallValue
of_row m end_of-Value h = tt
of_row m (more_of-Value {n = n} v rest) h = (h.0, of_row n rest h.1)

of_call_row : (s : Symbol) (n : _) (args : Row_of-Value _) (place : Place) → AllByRecursion IsSmallValue (items-the_row-Value _ args) → IsSmallValue (Call' s n args place)
unfolding IsSmallValue
of_call_row s n args place h = of_row _ args h

small_call : (s : Symbol) (args : List Value) (place : Place) → AllByRecursion IsSmallValue args → IsSmallValue (Call s args place)
small_call s args place h = search (rules, the_lemmas, of_call_row, h)

small_number : (e : IndexExpr) → IsSmallForm e → IsSmallValue (Number e)
unfolding IsSmallValue
small_number e h = h

small_access : (array : ℕ) (subs : List IndexExpr) (place : Place) → AreSmallForms subs → IsSmallValue (Access array subs place)
unfolding IsSmallValue
small_access array subs place h = h

small_placed : (place : Place) (v : Value) → IsSmallValue v → IsSmallValue (placed place v)
unfolding IsSmallValue
small_placed place (Number e) h = record { constant = h.constant; params = h.params; iters = h.iters; few_params = h.few_params; few_iters = h.few_iters; quots = h.quots; few_quots = h.few_quots }
small_placed place (Access array subs p) h = h
small_placed place (Call' symbol n args p) h = h

module _ (names : List Entry) (scope : Scope) (few : Few scope) where
  pub small_assigned : (target : Word) (subs : List Expr) (operator : Option Operator) (e : Expr) → IsSmallValue (assigned_value names scope target subs operator e)
  small_assigned = assigned_has names scope IsSmallValue IsSmallQuot other_coef (small_quot scope few)
      (λ j h q. small_number (index_expr scope j) (small_index_expr scope few j h q))
      (λ m word subs. small_access (array_number m) (map (index names scope) subs) word.place (small_indices names scope few subs))
      small_call small_placed
