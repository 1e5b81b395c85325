-- What a check keeps of a value, which it does not build: the first rule that is broken, and how many nodes there are; and
-- what building keeps. Each goes along with the reading of the expression.
use Rattle.std.specs.Prelude.{ℕ, ◌+◌, min, List, [], ◌∷◌, length, codes, Option, None}
use Rattle.ac_syntax.specs.ValueNodes.{size}
use Rattle.ac_syntax.specs.declared.tree.Place.{Place}
use Rattle.ac_syntax.specs.declared.tree.Value.{Value}
use Rattle.ac_syntax.specs.declared.tree.Value.TheVariants.{Number, Call}
use Rattle.ac_parse_grammar.specs.declared.tree.Word.{Word}
use Rattle.ac_parse_grammar.specs.declared.tree.Operator.{Operator}
use Rattle.ac_parse_grammar.specs.declared.tree.Expr.{Expr}
use Rattle.ac_parse_exprs.specs.declared.fault.Broken.{Broken}
use Rattle.ac_parse_exprs.specs.declared.scope.Meaning.{Meaning}
use Rattle.ac_parse_exprs.specs.declared.scope.Entry.{Entry}
use Rattle.ac_parse_exprs.specs.declared.scope.Scope.{Scope}
use Rattle.ac_parse_exprs.specs.declared.measure.Measured.{Measured}
use Rattle.ac_parse_exprs.specs.declared.measure.Measured.TheVariants as measured
use Rattle.ac_parse_exprs.specs.declared.measure.Total.{Total}
use Rattle.ac_parse_exprs.specs.declared.value.Built.{Built}
use Rattle.ac_parse_exprs.specs.declared.value.Built.TheVariants as built
use Rattle.ac_parse_exprs.specs.FaultOrder.{earlier, rule_broken}
use Rattle.ac_parse_exprs.specs.Meanings.{call_rule}
use Rattle.ac_parse_exprs.specs.IndexExpressions.{joined, judged_number, judged_negative, judged_group}
use Rattle.ac_parse_exprs.specs.Comparisons.{index_expr, whole_broken}
use Rattle.ac_parse_exprs.specs.Values.{Reading, number, other, reading, applied_values, symbol, placed}

-- nodes are counted up to one more than an assignment may have
abbrev pub capped : ℕ → ℕ
capped nodes = min nodes 65

abbrev pub measure_of : Reading → Measured
measure_of (number j) = measured.Number j
measure_of (other broken v) = measured.Other broken (capped (size v))

abbrev pub measure : List Entry → Scope → Expr → Measured
measure names scope e = measure_of (reading names scope e)

abbrev pub measured_broken : Measured → Option Broken
measured_broken (measured.Number j) = whole_broken j
measured_broken (measured.Other broken nodes) = broken

abbrev pub measured_nodes : Measured → ℕ
measured_nodes (measured.Number j) = 1
measured_nodes (measured.Other broken nodes) = nodes

abbrev pub with_measure : Total → Measured → Total
with_measure t m = record { broken = earlier t.broken (measured_broken m); nodes = capped (t.nodes + measured_nodes m) }

abbrev pub total_from : Total → List Measured → Total
total_from t [] = t
total_from t (m ∷ ms) = total_from (with_measure t m) ms

abbrev pub total_of : List Measured → Total
total_of ms = total_from (record { broken = None; nodes = 0 }) ms

abbrev pub measured_call : Meaning → Word → Total → Measured
measured_call m word t = measured.Other (earlier (rule_broken (call_rule m) word.place) t.broken) (capped (t.nodes + 1))

abbrev pub measured_negative : Place → Measured → Measured
measured_negative place (measured.Number j) = measured.Number (judged_negative place j)
measured_negative place (measured.Other broken nodes) = measured.Other broken (capped (nodes + 1))

abbrev pub measured_group : Place → Measured → Measured
measured_group place (measured.Number j) = measured.Number (judged_group place j)
measured_group place (measured.Other broken nodes) = measured.Other broken nodes

abbrev pub measured_both : Measured → Measured → Measured
measured_both m n = measured.Other (earlier (measured_broken m) (measured_broken n)) (capped ((measured_nodes m + measured_nodes n) + 1))

abbrev pub joined_measured : Operator → Measured → Measured → Measured
joined_measured op (measured.Number i) (measured.Number j) = measured.Number (joined op i j)
joined_measured op (measured.Number i) (measured.Other broken nodes) = measured_both (measured.Number i) (measured.Other broken nodes)
joined_measured op (measured.Other broken nodes) n = measured_both (measured.Other broken nodes) n

abbrev pub chained_measured : Measured → List Measured → List Operator → Measured
chained_measured a [] ops = a
chained_measured a (b ∷ bs) [] = a
chained_measured a (b ∷ bs) (op ∷ ops) = chained_measured (joined_measured op a b) bs ops

abbrev pub chain_measured : Scope → List Measured → List Operator → Measured
chain_measured scope [] ops = measured.Number (judged_number scope (record { number = 0; place = record { at = 0 } }))
chain_measured scope (a ∷ bs) ops = chained_measured a bs ops

abbrev pub built_of : Reading → Built
built_of (number j) = built.Number j
built_of (other broken v) = built.Other v

abbrev pub build : List Entry → Scope → Expr → Built
build names scope e = built_of (reading names scope e)

abbrev pub built_value : Scope → Built → Value
built_value scope (built.Number j) = Number (index_expr scope j)
built_value scope (built.Other v) = v

abbrev pub built_call : Word → List Value → Built
built_call word args = built.Other (Call (symbol word.name (length args)) args word.place)

abbrev pub built_negative : Place → Built → Built
built_negative place (built.Number j) = built.Number (judged_negative place j)
built_negative place (built.Other v) = built.Other (Call (symbol (codes "-") 1) (v ∷ []) place)

abbrev pub built_group : Place → Built → Built
built_group place (built.Number j) = built.Number (judged_group place j)
built_group place (built.Other v) = built.Other (placed place v)

abbrev pub joined_built : Scope → Operator → Built → Built → Built
joined_built scope op (built.Number i) (built.Number j) = built.Number (joined op i j)
joined_built scope op (built.Number i) (built.Other v) = built.Other (applied_values op (Number (index_expr scope i)) v)
joined_built scope op (built.Other v) b = built.Other (applied_values op v (built_value scope b))

abbrev pub chained_built : Scope → Built → List Built → List Operator → Built
chained_built scope a [] ops = a
chained_built scope a (b ∷ bs) [] = a
chained_built scope a (b ∷ bs) (op ∷ ops) = chained_built scope (joined_built scope op a b) bs ops

abbrev pub chain_built : Scope → List Built → List Operator → Built
chain_built scope [] ops = built.Number (judged_number scope (record { number = 0; place = record { at = 0 } }))
chain_built scope (a ∷ bs) ops = chained_built scope a bs ops
