-- How conditions are read. The tokens do not tell before its end whether a parenthesis holds a condition or an expression,
-- so one of the two is read, whichever it is.
use Rattle.std.specs.Prelude.{ℕ, zero, suc, Bool, true, List, [], ◌∷◌, ◌++◌, Option, Some, None, if◌then◌else◌}
use Rattle.ac_syntax.specs.declared.tree.Place.{Place}
use Rattle.ac_parse_grammar.specs.declared.terminal.Terminal.{Terminal}
use Rattle.ac_parse_grammar.specs.declared.terminal.Terminal.TheVariants as t
use Rattle.ac_parse_grammar.specs.declared.tree.Relation.{Relation}
use Rattle.ac_parse_grammar.specs.declared.tree.Expr.{Expr}
use Rattle.ac_parse_grammar.specs.declared.tree.Expr.TheVariants.{Group}
use Rattle.ac_parse_grammar.specs.declared.tree.Part.{Part}
use Rattle.ac_parse_grammar.specs.declared.conditions.Mixed.{Mixed}
use Rattle.ac_parse_grammar.specs.declared.conditions.Mixed.TheVariants.{Condition, Expression}
use Rattle.ac_parse_grammar.specs.TokenWords.{place_of}
use Rattle.ac_parse_grammar.specs.Operators.{relation_of}
use Rattle.ac_parse_grammar.specs.Chains.{part_of}
use Rattle.ac_parse_grammar.specs.ReaderCombinators.{Reader, ◌>>=◌, pure, refuse, peek, front, is, ending, operator, repeat}
use Rattle.ac_parse_grammar.specs.Expressions.{opens, goes_on, expr_of, product, sum, unary, within}

abbrev pub and_of : Terminal → Option (Unit {0})
and_of t.And = Some tt
and_of _ = None

-- the terminals with which a shorter condition goes on
abbrev pub condition_goes_on : Terminal → Bool
condition_goes_on t.And = true
condition_goes_on k = goes_on k

abbrev pub join_parts : List Part → Unit {0} → List Part → List Part
join_parts parts _ more = parts ++ more

-- an expression, or its comparison with the one behind a relation
abbrev pub compared_by : Reader Expr → Expr → Option Relation → Reader Mixed
compared_by unary left None = pure (Expression left)
compared_by unary left (Some relation) = expr_of unary >>= (λ right. pure (Condition (part_of left relation right ∷ [])))

unfoldable pub compared : Reader Expr → Expr → Reader Mixed
compared unary left = operator relation_of >>= compared_by unary left

-- behind a parenthesis: an expression in it may go on, a condition may not
unfoldable pub behind : Reader Expr → Place → Mixed → Reader Mixed
behind unary place (Expression inner) = ending opens (Group inner place) >>= product unary >>= sum unary >>= compared unary
behind unary place (Condition parts) = ending goes_on (Condition parts)

unfoldable pub mixed_part : Option (Reader Mixed) → Reader Expr → Reader Mixed
mixed_part below unary = λ ts. if is t.Open (peek ts) then (within below (λ mixed. mixed) t.Close >>= behind unary (place_of (front ts))) ts
    else (expr_of unary >>= compared unary) ts

-- a condition is wanted
abbrev pub required : Mixed → Reader (List Part)
required (Condition parts) = pure parts
required (Expression e) = refuse

unfoldable pub part : Option (Reader Mixed) → Reader Expr → Reader (List Part)
part below unary = mixed_part below unary >>= required

unfoldable pub parts : Option (Reader Mixed) → Reader Expr → List Part → Reader (List Part)
parts below unary first = repeat and_of join_parts (part below unary) first

abbrev pub more_parts : Option (Reader Mixed) → Reader Expr → Mixed → Reader Mixed
more_parts below unary (Condition first) = parts below unary first >>= (λ all. pure (Condition all))
more_parts below unary (Expression e) = pure (Expression e)

unfoldable pub mixed_in : Option (Reader Mixed) → Reader Expr → Reader Mixed
mixed_in below unary = mixed_part below unary >>= more_parts below unary

unfoldable pub mixed_below : ℕ → Option (Reader Mixed)
mixed_below zero = None
mixed_below (suc room) = Some (mixed_in (mixed_below room) (unary room))

abbrev pub mixed : ℕ → Reader Mixed
mixed room = mixed_in (mixed_below room) (unary room)

unfoldable pub cond : ℕ → Reader (List Part)
cond room = mixed room >>= required
