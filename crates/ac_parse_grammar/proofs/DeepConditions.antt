-- Where more constructs may open, a condition is read in the same way, unless it stopped at the limit.
use Rattle.std.specs.Prelude.{Option, Some, None}
use Rattle.std.proofs.Common.{ℕ, zero, suc}
use Rattle.ac_syntax.specs.declared.tree.Place.{Place}
use Rattle.ac_parse_grammar.specs.declared.terminal.Terminal.TheVariants as t
use Rattle.ac_parse_grammar.specs.declared.tree.Relation.{Relation}
use Rattle.ac_parse_grammar.specs.declared.tree.Expr.{Expr}
use Rattle.ac_parse_grammar.specs.declared.tree.Expr.TheVariants.{Group}
use Rattle.ac_parse_grammar.specs.declared.conditions.Mixed.{Mixed}
use Rattle.ac_parse_grammar.specs.declared.conditions.Mixed.TheVariants.{Condition, Expression}
use Rattle.ac_parse_grammar.specs.TokenWords.{place_of}
use Rattle.ac_parse_grammar.specs.ReaderCombinators.{Reader, peek, front, is, ending, operator}
use Rattle.ac_parse_grammar.specs.Expressions.{opens, expr_of, unary}
use Rattle.ac_parse_grammar.specs.Conditions.{and_of, join_parts, compared, compared_by, behind, mixed_part, part, parts, more_parts, mixed_in, mixed_below, mixed, cond}
use Rattle.ac_parse_grammar.proofs.Deeper.{Deeper, then_agree, then_deeper, same_deeper, choose_deeper, repeat_deeper, Below, at_limit, inside, within_deeper}
use Rattle.ac_parse_grammar.proofs.DeepExpressions.{product_deeper, sum_deeper, expr_deeper, unary_deeper}
use Rattle.ac_parse_grammar.specs.Operators.{relation_of}

module _ (u v : Reader Expr) (d : Deeper u v) where
  compared_by_deeper : (left : Expr) (o : Option Relation) → Deeper (compared_by u left o) (compared_by v left o)
  compared_by_deeper left None = same_deeper _
  compared_by_deeper left (Some relation) = then_deeper (expr_of u) (expr_of v) _ _ (expr_deeper u v d) (λ right. same_deeper _)

  compared_deeper : (left : Expr) → Deeper (compared u left) (compared v left)
  unfolding compared
  compared_deeper left = then_deeper (operator relation_of) (operator relation_of) _ _ (same_deeper _) (compared_by_deeper left)

  behind_deeper : (place : Place) (m : Mixed) → Deeper (behind u place m) (behind v place m)
  unfolding behind
  behind_deeper place (Condition all) = same_deeper _
  behind_deeper place (Expression inner) = then_deeper _ _ _ _
      (then_deeper _ _ _ _ (then_deeper (ending opens (Group inner place)) (ending opens (Group inner place)) _ _ (same_deeper _) (product_deeper u v d)) (sum_deeper u v d)) compared_deeper

module _ (b c : Option (Reader Mixed)) (below : Below Deeper b c) (u v : Reader Expr) (d : Deeper u v) where
  mixed_part_deeper : Deeper (mixed_part b u) (mixed_part c v)
  unfolding mixed_part
  mixed_part_deeper ts = choose_deeper (is t.Open (peek ts)) _ _ _ _
      (then_agree _ _ _ _ (within_deeper b c (λ mixed. mixed) t.Close below (λ p q e. e) ts) (behind_deeper u v d (place_of (front ts))))
      (then_agree (expr_of u ts) (expr_of v ts) _ _ (expr_deeper u v d ts) (compared_deeper u v d))

  part_deeper : Deeper (part b u) (part c v)
  unfolding part
  part_deeper = then_deeper (mixed_part b u) (mixed_part c v) _ _ mixed_part_deeper (λ m. same_deeper _)

  more_deeper : (m : Mixed) → Deeper (more_parts b u m) (more_parts c v m)
  unfolding parts
  more_deeper (Condition first) = then_deeper (parts b u first) (parts c v first) _ _ (repeat_deeper and_of join_parts (part b u) (part c v) part_deeper first) (λ all. same_deeper _)
  more_deeper (Expression e) = same_deeper _

  mixed_in_deeper : Deeper (mixed_in b u) (mixed_in c v)
  unfolding mixed_in
  mixed_in_deeper = then_deeper (mixed_part b u) (mixed_part c v) _ _ mixed_part_deeper more_deeper

mixed_below_deeper : (room : ℕ) → Below Deeper (mixed_below room) (mixed_below (suc room))
unfolding mixed_below
mixed_below_deeper zero = at_limit (mixed_below (suc zero))
mixed_below_deeper (suc room) = inside (mixed room) (mixed (suc room)) (mixed_in_deeper (mixed_below room) (mixed_below (suc room)) (mixed_below_deeper room) (unary room) (unary (suc room)) (unary_deeper room))

pub cond_deeper : (room : ℕ) → Deeper (cond room) (cond (suc room))
unfolding cond
cond_deeper room = then_deeper (mixed room) (mixed (suc room)) _ _
    (mixed_in_deeper (mixed_below room) (mixed_below (suc room)) (mixed_below_deeper room) (unary room) (unary (suc room)) (unary_deeper room)) (λ m. same_deeper _)
