-- The value of an expression as it is written, in exact integers, and whether a comparison holds as it is written.
use Rattle.std.specs.Prelude.{◌≡◌, ◌==◌, ℕ, zero, suc, Bool, int_rem, if◌then◌else◌, List, [], ◌∷◌, length, ℤ, pos, ◌+ℤ◌, ◌-ℤ◌, ◌*ℤ◌, neg_ℤ, ◌<ℤ◌, ◌≤ℤ◌, Option, Some, None, slice_get}
use Rattle.std.specs.Option.{option_map, option_and_then}
use Rattle.std.specs.Int.{int_div_euclid}
use Rattle.ac_syntax.specs.Index.{Point, is_zero}
use Rattle.ac_parse_grammar.specs.declared.tree.Operator.{Operator}
use Rattle.ac_parse_grammar.specs.declared.tree.Operator.TheVariants.{Add, Subtract, Multiply, Divide, Remainder}
use Rattle.ac_parse_grammar.specs.declared.tree.Relation.{Relation}
use Rattle.ac_parse_grammar.specs.declared.tree.Relation.TheVariants.{Less, AtMost, Greater, AtLeast, Equal}
use Rattle.ac_parse_grammar.specs.declared.tree.Expr.{Expr}
use Rattle.ac_parse_grammar.specs.declared.tree.Expr.TheOpen.{Expr-F}
use Rattle.ac_parse_grammar.specs.declared.tree.Expr.TheFolds.{fold-Expr}
use Rattle.ac_parse_exprs.specs.declared.scope.Meaning.{Meaning}
use Rattle.ac_parse_exprs.specs.declared.scope.Meaning.TheVariants.{Parameter, Iterator, Array, LoopName, OwnStart, Nothing}
use Rattle.ac_parse_exprs.specs.declared.scope.Entry.{Entry}
use Rattle.ac_parse_exprs.specs.declared.scope.Scope.{Scope}
use Rattle.ac_parse_exprs.specs.Meanings.{meaning}

-- the integer that a parameter or an iterator has at a point; nothing else has one
abbrev pub meant_integer : Point → Meaning → Option ℤ
meant_integer p (Parameter k) = slice_get p.params k
meant_integer p (Iterator k) = slice_get p.iters k
meant_integer p (Array number dimensions) = None
meant_integer p LoopName = None
meant_integer p OwnStart = None
meant_integer p Nothing = None

-- the integer of a name where it stands
abbrev pub integer_of : List Entry → Scope → Point → List ℕ → Option ℤ
integer_of names scope p name = meant_integer p (meaning names scope name)

-- an operation on two values, where there are both
abbrev pub on_both : (ℤ → ℤ → ℤ) → Option ℤ → Option ℤ → Option ℤ
on_both f (Some x) (Some y) = Some (f x y)
on_both f (Some x) None = None
on_both f None b = None

-- what is left of a quotient that is rounded towards 0, as in C; by 0 there is none
abbrev pub remainder : ℤ → ℤ → Option ℤ
remainder x y = if is_zero y then None else Some (int_rem x y)

-- sum, difference, product and remainder; a quotient by `/` stands in no index
abbrev pub operated : Operator → Option ℤ → Option ℤ → Option ℤ
operated Add a b = on_both (λ x y. x +ℤ y) a b
operated Subtract a b = on_both (λ x y. x -ℤ y) a b
operated Multiply a b = on_both (λ x y. x *ℤ y) a b
operated Divide a b = None
operated Remainder a b = option_and_then (λ x. option_and_then (remainder x) b) a

-- operators group to the left
abbrev pub operated_all : Option ℤ → List (Option ℤ) → List Operator → Option ℤ
operated_all a [] operators = a
operated_all a (b ∷ bs) [] = a
operated_all a (b ∷ bs) (o ∷ os) = operated_all (operated o a b) bs os

-- a chain of nothing, which no text has, is 0
abbrev pub chain_value : List (Option ℤ) → List Operator → Option ℤ
chain_value [] operators = Some (pos 0)
chain_value (a ∷ bs) operators = operated_all a bs operators

-- a quotient that is rounded up or down; by 0 there is none
abbrev pub rounded : Bool → ℕ → ℤ → Option ℤ
rounded up zero x = None
rounded up (suc n) x = Some (if up then neg_ℤ (int_div_euclid (neg_ℤ x) (pos (suc n))) else int_div_euclid x (pos (suc n)))

-- the value of an expression by the values of its parts; decimals, calls and names with subscripts have none
abbrev pub value_step : (List ℕ → Option ℤ) → Expr-F (Option ℤ) → Option ℤ
value_step integer (Expr-F.Number n) = Some (pos n.number)
value_step integer (Expr-F.Decimal word) = None
value_step integer (Expr-F.Access name subs) = if length subs == 0 then integer name.name else None
value_step integer (Expr-F.Call name args) = None
value_step integer (Expr-F.Quotient up argument divisor place) = option_and_then (rounded up divisor.number) argument
value_step integer (Expr-F.Negative operand place) = option_map neg_ℤ operand
value_step integer (Expr-F.Group inner place) = inner
value_step integer (Expr-F.Chain operands operators) = chain_value operands operators

-- the value of an expression where names have these integers
unfoldable pub expression_value : (List ℕ → Option ℤ) → Expr → Option ℤ
expression_value integer = fold-Expr (Option ℤ) (value_step integer)

-- `<`, `<=`, `>`, `>=` and `==` of two integers
abbrev pub IsRelated : Relation → ℤ → ℤ → Type 0
IsRelated Less x y = x <ℤ y
IsRelated AtMost x y = x ≤ℤ y
IsRelated Greater x y = y <ℤ x
IsRelated AtLeast x y = y ≤ℤ x
IsRelated Equal x y = x ≡ y
