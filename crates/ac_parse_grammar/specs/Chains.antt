-- The trees of chains, whose operators group to the left, of quotients, and of comparisons.
use Rattle.std.specs.Prelude.{List, [], ◌∷◌, ◌++◌}
use Rattle.ac_lex.specs.Lexemes.{Lexeme}
use Rattle.ac_parse_grammar.specs.declared.tree.Operator.{Operator}
use Rattle.ac_parse_grammar.specs.declared.tree.Relation.{Relation}
use Rattle.ac_parse_grammar.specs.declared.tree.Expr.{Expr}
use Rattle.ac_parse_grammar.specs.declared.tree.Expr.TheVariants.{Chain, Quotient}
use Rattle.ac_parse_grammar.specs.declared.tree.Part.{Part}
use Rattle.ac_parse_grammar.specs.declared.links.Links.{Links}
use Rattle.ac_parse_grammar.specs.Terminals.{terminal, rounds_up}
use Rattle.ac_parse_grammar.specs.TokenWords.{place_of, numeral_of}

abbrev pub start : Expr → Links
start first = record { operands = first ∷ []; operators = [] }

-- one more operator and operand
abbrev pub link : Links → Operator → Expr → Links
link links operator operand = record { operands = links.operands ++ operand ∷ []; operators = links.operators ++ operator ∷ [] }

-- one operand alone is the operand itself
abbrev pub chain_of : List Expr → List Operator → Expr
chain_of [] operators = Chain [] operators
chain_of (first ∷ []) operators = first
chain_of (first ∷ second ∷ more) operators = Chain (first ∷ second ∷ more) operators

abbrev pub chain : Links → Expr
chain links = chain_of links.operands links.operators

-- the quotient that a word and a number make of what stands between them
abbrev pub quotient_of : Lexeme → Expr → Lexeme → Expr
quotient_of word argument divisor = Quotient (rounds_up (terminal word)) argument (numeral_of divisor) (place_of word)

abbrev pub part_of : Expr → Relation → Expr → Part
part_of left relation right = record { left = left; relation = relation; right = right }
