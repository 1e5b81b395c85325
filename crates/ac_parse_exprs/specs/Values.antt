-- The value of a right side. In it a maximal expression without an access to an array, a call or a decimal is an index
-- expression, and one number; every operator else is a call of its symbol.
use Rattle.std.specs.Prelude.{ℕ, ◌==◌, not, ◌&&◌, if◌then◌else◌, min, List, [], ◌∷◌, map, length, codes, Option, None}
use Rattle.ac_syntax.specs.declared.tree.Place.{Place}
use Rattle.ac_syntax.specs.declared.tree.Symbol.{Symbol}
use Rattle.ac_syntax.specs.declared.tree.Value.{Value}
use Rattle.ac_syntax.specs.declared.tree.Value.TheVariants.{Number, Access, Call, Call'}
use Rattle.ac_parse_grammar.specs.declared.tree.Word.{Word}
use Rattle.ac_parse_grammar.specs.declared.tree.Operator.{Operator}
use Rattle.ac_parse_grammar.specs.declared.tree.Operator.TheVariants.{Add, Subtract, Multiply, Divide, Remainder}
use Rattle.ac_parse_grammar.specs.declared.tree.Expr.{Expr}
use Rattle.ac_parse_grammar.specs.declared.tree.Expr.TheOpen.{Expr-F}
use Rattle.ac_parse_grammar.specs.declared.tree.Expr.TheFolds.{para-Expr}
use Rattle.ac_parse_exprs.specs.declared.fault.Rule.{Rule}
use Rattle.ac_parse_exprs.specs.declared.fault.Broken.{Broken}
use Rattle.ac_parse_exprs.specs.declared.scope.Meaning.{Meaning}
use Rattle.ac_parse_exprs.specs.declared.scope.Meaning.TheVariants as meaning_of
use Rattle.ac_parse_exprs.specs.declared.scope.Entry.{Entry}
use Rattle.ac_parse_exprs.specs.declared.scope.Scope.{Scope}
use Rattle.ac_parse_exprs.specs.declared.index.Judged.{Judged}
use Rattle.ac_parse_exprs.specs.FaultOrder.{earlier, rule_broken}
use Rattle.ac_parse_exprs.specs.Meanings.{meaning, is_array, read_rule, call_rule}
use Rattle.ac_parse_exprs.specs.IndexExpressions.{judged_number, judged_name, judged_quotient, judged_negative, judged_group, joined, judged}
use Rattle.ac_parse_exprs.specs.Comparisons.{first_of, whole_broken, index_expr, index, index_broken}

-- an expression of a value: a number by what the rules say of it, or a value with the first rule that is broken in it
pub data Reading : Type 0 where
  number : Judged → Reading
  other : Option Broken → Value → Reading

-- the first byte of a value
abbrev pub value_place : Value → Place
value_place (Number e) = e.place
value_place (Access array subs place) = place
value_place (Call' symbol n args place) = place

-- the same value from another first byte on
abbrev pub placed : Place → Value → Value
placed place (Number e) = Number (record { konst = e.konst; params = e.params; iters = e.iters; quots = e.quots; place = place })
placed place (Access array subs p) = Access array subs place
placed place (Call' symbol n args p) = Call' symbol n args place

abbrev pub value_of : Scope → Reading → Value
value_of scope (number j) = Number (index_expr scope j)
value_of scope (other broken v) = v

abbrev pub reading_broken : Reading → Option Broken
reading_broken (number j) = whole_broken j
reading_broken (other broken v) = broken

-- an arity is kept in a byte; no assignment within the limits has one above 63
abbrev pub symbol : List ℕ → ℕ → Symbol
symbol name arity = record { name = name; arity = min arity 255 }

abbrev pub operator_name : Operator → List ℕ
operator_name Add = codes "+"
operator_name Subtract = codes "-"
operator_name Multiply = codes "*"
operator_name Divide = codes "/"
operator_name Remainder = codes "%"

-- the number of an array; other names, which break a rule, have none and get 0
abbrev pub array_number : Meaning → ℕ
array_number (meaning_of.Parameter k) = 0
array_number (meaning_of.Iterator k) = 0
array_number (meaning_of.Array k dimensions) = k
array_number meaning_of.LoopName = 0
array_number meaning_of.OwnStart = 0
array_number meaning_of.Nothing = 0

-- a name with its subscripts
abbrev pub access_broken : List Entry → Scope → Option Rule → Word → List Expr → Option Broken
access_broken names scope rule word subs = earlier (rule_broken rule word.place) (first_of (map (index_broken names scope) subs))

abbrev pub read_of : List Entry → Scope → Meaning → Word → List Expr → Value
read_of names scope m word subs = Access (array_number m) (map (index names scope) subs) word.place

abbrev pub access_reading : List Entry → Scope → Meaning → Word → List Expr → Reading
access_reading names scope m word subs =
    if (length subs == 0) && not (is_array m) then number (judged_name scope m word)
    else other (access_broken names scope (read_rule m (length subs)) word subs) (read_of names scope m word subs)

abbrev pub call_reading : Scope → Meaning → Word → List Reading → Reading
call_reading scope m word args = other
    (earlier (rule_broken (call_rule m) word.place) (first_of (map reading_broken args)))
    (Call (symbol word.name (length args)) (map (value_of scope) args) word.place)

abbrev pub negative_reading : Place → Reading → Reading
negative_reading place (number j) = number (judged_negative place j)
negative_reading place (other broken v) = other broken (Call (symbol (codes "-") 1) (v ∷ []) place)

abbrev pub group_reading : Place → Reading → Reading
group_reading place (number j) = number (judged_group place j)
group_reading place (other broken v) = other broken (placed place v)

-- an operator between two values
abbrev pub applied_values : Operator → Value → Value → Value
applied_values op v w = Call (symbol (operator_name op) 2) (v ∷ w ∷ []) (value_place v)

-- two sides of which one is no number
abbrev pub applied : Scope → Operator → Reading → Reading → Reading
applied scope op a b = other (earlier (reading_broken a) (reading_broken b)) (applied_values op (value_of scope a) (value_of scope b))

abbrev pub joined_reading : Scope → Operator → Reading → Reading → Reading
joined_reading scope op (number i) (number j) = number (joined op i j)
joined_reading scope op (number i) (other broken v) = applied scope op (number i) (other broken v)
joined_reading scope op (other broken v) b = applied scope op (other broken v) b

-- operators group to the left
abbrev pub chained_reading : Scope → Reading → List Reading → List Operator → Reading
chained_reading scope a [] ops = a
chained_reading scope a (b ∷ bs) [] = a
chained_reading scope a (b ∷ bs) (op ∷ ops) = chained_reading scope (joined_reading scope op a b) bs ops

abbrev pub chain_reading : Scope → List Reading → List Operator → Reading
chain_reading scope [] ops = number (judged_number scope (record { number = 0; place = record { at = 0 } }))
chain_reading scope (a ∷ bs) ops = chained_reading scope a bs ops

-- an expression, by its parts and what was read of them
abbrev pub reading_step : List Entry → Scope → Expr-F (Expr × Reading) → Reading
reading_step names scope (Expr-F.Number n) = number (judged_number scope n)
reading_step names scope (Expr-F.Decimal word) = other None (Call (symbol word.name 0) [] word.place)
reading_step names scope (Expr-F.Access name subs) = access_reading names scope (meaning names scope name.name) name (map (λ s. s.0) subs)
reading_step names scope (Expr-F.Call name args) = call_reading scope (meaning names scope name.name) name (map (λ a. a.1) args)
reading_step names scope (Expr-F.Quotient up argument divisor place) = number (judged_quotient scope up divisor place (judged names scope argument.0))
reading_step names scope (Expr-F.Negative operand place) = negative_reading place operand.1
reading_step names scope (Expr-F.Group inner place) = group_reading place inner.1
reading_step names scope (Expr-F.Chain operands operators) = chain_reading scope (map (λ e. e.1) operands) operators

unfoldable pub reading : List Entry → Scope → Expr → Reading
reading names scope = para-Expr Reading (reading_step names scope)

-- the value of an expression
abbrev pub value : List Entry → Scope → Expr → Value
value names scope e = value_of scope (reading names scope e)

abbrev pub value_broken : List Entry → Scope → Expr → Option Broken
value_broken names scope e = reading_broken (reading names scope e)
