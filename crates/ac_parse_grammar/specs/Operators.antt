-- The operators and relations that terminals stand for.
use Rattle.std.specs.Prelude.{Option, Some, None}
use Rattle.ac_parse_grammar.specs.declared.terminal.Terminal.{Terminal}
use Rattle.ac_parse_grammar.specs.declared.terminal.Terminal.TheVariants as t
use Rattle.ac_parse_grammar.specs.declared.tree.Operator.{Operator}
use Rattle.ac_parse_grammar.specs.declared.tree.Operator.TheVariants.{Add, Subtract, Multiply, Divide, Remainder}
use Rattle.ac_parse_grammar.specs.declared.tree.Relation.{Relation}
use Rattle.ac_parse_grammar.specs.declared.tree.Relation.TheVariants as r

-- the operators of sums, and of products
abbrev pub sign_of : Terminal → Option Operator
sign_of t.Plus = Some Add
sign_of t.Minus = Some Subtract
sign_of _ = None

abbrev pub star_of : Terminal → Option Operator
star_of t.Star = Some Multiply
star_of t.Slash = Some Divide
star_of t.Percent = Some Remainder
star_of _ = None

abbrev pub relation_of : Terminal → Option Relation
relation_of t.Less = Some r.Less
relation_of t.AtMost = Some r.AtMost
relation_of t.Greater = Some r.Greater
relation_of t.AtLeast = Some r.AtLeast
relation_of t.Equal = Some r.Equal
relation_of _ = None
