-- Each index expression of a value fits its scope.
use Rattle.std.proofs.Common.{ℕ, List, map, length, Option}
use Rattle.ac_syntax.specs.FittingForms.{FitsQuot, FitsForm, FormsFit}
use Rattle.ac_syntax.specs.ReadyPrograms.{FitsValue}
use Rattle.ac_syntax.specs.declared.tree.Place.{Place}
use Rattle.ac_syntax.specs.declared.tree.Value.{Value}
use Rattle.ac_syntax.specs.declared.tree.Value.TheVariants as v
use Rattle.ac_syntax.proofs.ReadyAt.{number_fits, access_fits, fits_call}
use Rattle.ac_parse_grammar.specs.declared.tree.Word.{Word}
use Rattle.ac_parse_grammar.specs.declared.tree.Operator.{Operator}
use Rattle.ac_parse_grammar.specs.declared.tree.Expr.{Expr}
use Rattle.ac_parse_exprs.specs.declared.scope.Entry.{Entry}
use Rattle.ac_parse_exprs.specs.declared.scope.Scope.{Scope}
use Rattle.ac_parse_exprs.specs.Comparisons.{index_expr, index}
use Rattle.ac_parse_exprs.specs.Values.{array_number, placed}
use Rattle.ac_parse_rules.specs.Statements.{assigned_value}
use Rattle.ac_parse_exprs.proofs.Absent.{each, each_map}
use Rattle.ac_parse_rules.proofs.AssignedValues.{assigned_has}
use Rattle.ac_parse_exprs.proofs.FittingForms.{other_fits, quot_fits, index_expr_fits, index_fits}

placed_fits : (ps xs : ℕ) (place : Place) (x : Value) → FitsValue ps xs x → FitsValue ps xs (placed place x)
unfolding FitsValue
placed_fits ps xs place (v.Number e) h = record { params = h.params; iters = h.iters; quots = h.quots }
placed_fits ps xs place (v.Access array subs p) h = h
placed_fits ps xs place (v.Call' s n args p) h = h

module _ (names : List Entry) (scope : Scope) where
  pub indices_fit : (es : List Expr) → FormsFit scope.params (length scope.iterators) (map (index names scope) es)
  indices_fit es = each_map (index names scope) (FitsForm scope.params (length scope.iterators)) es (each (λ e. FitsForm scope.params (length scope.iterators) (index names scope e)) (index_fits names scope) es)

  -- what an assignment assigns
  pub assigned_fits : (target : Word) (subs : List Expr) (operator : Option Operator) (e : Expr) → FitsValue scope.params (length scope.iterators) (assigned_value names scope target subs operator e)
  assigned_fits = assigned_has names scope (FitsValue scope.params (length scope.iterators))
      (FitsQuot scope.params (length scope.iterators)) (other_fits scope.params (length scope.iterators)) (quot_fits scope)
      (λ j h q. number_fits scope.params (length scope.iterators) (index_expr scope j) (index_expr_fits scope j h q))
      (λ m word subs. access_fits scope.params (length scope.iterators) (array_number m) (map (index names scope) subs) word.place (indices_fit subs))
      (fits_call scope.params (length scope.iterators)) (placed_fits scope.params (length scope.iterators))
