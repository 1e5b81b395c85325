-- Comparisons that test a divisor: `e % c == 0` with a Number c and the Number 0, parentheses around the left side aside.
use Rattle.std.specs.Prelude.{suc, ◌==◌, ◌-◌, Bool, true, false, ◌&&◌, if◌then◌else◌, List, length, take, map, slice_get, Option, Some, None}
use Rattle.std.specs.Option.{option_map, option_and_then}
use Rattle.ac_syntax.specs.declared.tree.Place.{Place}
use Rattle.ac_parse_grammar.specs.declared.tree.Numeral.{Numeral}
use Rattle.ac_parse_grammar.specs.declared.tree.Operator.{Operator}
use Rattle.ac_parse_grammar.specs.declared.tree.Relation.{Relation}
use Rattle.ac_parse_grammar.specs.declared.tree.Relation.TheVariants.{Less, AtMost, Greater, AtLeast, Equal}
use Rattle.ac_parse_grammar.specs.declared.tree.Expr.{Expr}
use Rattle.ac_parse_grammar.specs.declared.tree.Expr.TheOpen.{Expr-F}
use Rattle.ac_parse_grammar.specs.declared.tree.Expr.TheFolds.{fold-Expr, para-Expr}
use Rattle.ac_parse_grammar.specs.declared.tree.Part.{Part}
use Rattle.ac_parse_exprs.specs.declared.division.Division as borrowed
use Rattle.ac_parse_exprs.specs.IndexExpressions.{is_remainder}

-- `e % c`: the operands and operators of e, and c; `parenthesis` is the outermost one around it, if there is one
pub record Division : Type 0 where
  pub operands : List Expr
  pub operators : List Operator
  pub divisor : Numeral
  pub parenthesis : Option Place

-- one that is borrowed from a comparison
abbrev pub lent : borrowed.Division → Division
lent d = record { operands = d.operands.now; operators = d.operators.now; divisor = d.divisor.now; parenthesis = d.parenthesis }

-- an expression that is a Number alone
abbrev pub number_step : Expr-F (Option Numeral) → Option Numeral
number_step (Expr-F.Number n) = Some n
number_step (Expr-F.Decimal word) = None
number_step (Expr-F.Access name subs) = None
number_step (Expr-F.Call name args) = None
number_step (Expr-F.Quotient up argument divisor place) = None
number_step (Expr-F.Negative operand place) = None
number_step (Expr-F.Group inner place) = None
number_step (Expr-F.Chain operands operators) = None

unfoldable pub number_alone : Expr → Option Numeral
number_alone = fold-Expr (Option Numeral) number_step

abbrev pub is_by_remainder : Option Operator → Bool
is_by_remainder None = false
is_by_remainder (Some op) = is_remainder op

-- a chain whose last operator is `%`, before a Number
abbrev pub chain_division : List Expr → List Operator → Option Division
chain_division operands operators =
    let n = length operators in
    if (length operands == suc n) && is_by_remainder (slice_get operators (n - 1))
    then option_map (λ c. record { operands = take n operands; operators = take (n - 1) operators; divisor = c; parenthesis = None }) (option_and_then number_alone (slice_get operands n))
    else None

abbrev pub within : Place → Division → Division
within place d = record d { parenthesis = Some place }

abbrev pub division_step : Expr-F (Expr × Option Division) → Option Division
division_step (Expr-F.Number n) = None
division_step (Expr-F.Decimal word) = None
division_step (Expr-F.Access name subs) = None
division_step (Expr-F.Call name args) = None
division_step (Expr-F.Quotient up argument divisor place) = None
division_step (Expr-F.Negative operand place) = None
division_step (Expr-F.Group inner place) = option_map (within place) inner.1
division_step (Expr-F.Chain operands operators) = chain_division (map (λ e. e.0) operands) operators

unfoldable pub division_of : Expr → Option Division
division_of = para-Expr (Option Division) division_step

abbrev pub is_equality : Relation → Bool
is_equality Less = false
is_equality AtMost = false
is_equality Greater = false
is_equality AtLeast = false
is_equality Equal = true

abbrev pub is_nought : Option Numeral → Bool
is_nought None = false
is_nought (Some n) = n.number == 0

-- what a comparison tests a divisor of
abbrev pub tested_division : Part → Option Division
tested_division part = if is_equality part.relation && is_nought (number_alone part.right) then division_of part.left else None
