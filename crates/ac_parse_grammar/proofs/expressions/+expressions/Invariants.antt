use Rattle.std.proofs.Common.{◌≡◌, ◌+◌, ◌*◌, ◌-◌}
use Rattle.ac_parse_grammar.specs.declared.terminal.Terminal.TheVariants.{OpenBracket, CloseBracket}
use Rattle.ac_parse_grammar.specs.Chains.{link}
use Rattle.ac_parse_grammar.specs.ReaderCombinators.{is, repeat_from, many_from}
use Rattle.ac_parse_grammar.specs.Expressions.{expr, expr_of, term, unary, below, within, terms, factors, list, subscripts, comma_of, list_item, add_item}
use Rattle.ac_parse_grammar.proofs.expressions.+expressions.Given as goal
use Rattle.ac_parse_grammar.specs.Operators.{sign_of, star_of}

abbrev pub decreases-list_or_none : goal.decreases-list_or_none
decreases-list_or_none l = 16 * l.room + 15

abbrev pub decreases-list : goal.decreases-list
decreases-list l = 16 * l.room + 14

abbrev pub decreases-expr : goal.decreases-expr
decreases-expr l = 16 * l.room + 13

abbrev pub decreases-sum : goal.decreases-sum
decreases-sum l = 16 * l.room + 12

abbrev pub decreases-terms : goal.decreases-terms
decreases-terms l = 16 * l.room + 11

abbrev pub decreases-term : goal.decreases-term
decreases-term l = 16 * l.room + 10

abbrev pub decreases-product : goal.decreases-product
decreases-product l = 16 * l.room + 9

abbrev pub decreases-factors : goal.decreases-factors
decreases-factors l = 16 * l.room + 8

abbrev pub decreases-unary : goal.decreases-unary
decreases-unary l = 16 * l.room + 7

abbrev pub decreases-negated : goal.decreases-negated
decreases-negated l = 16 * l.room

abbrev pub decreases-primary : goal.decreases-primary
decreases-primary l = 16 * l.room + 6

abbrev pub decreases-any_primary : goal.decreases-any_primary
decreases-any_primary l = 16 * l.room + 5

abbrev pub decreases-divided : goal.decreases-divided
decreases-divided l = 16 * l.room + 14

abbrev pub decreases-quotient : goal.decreases-quotient
decreases-quotient l = 16 * l.room + 4

abbrev pub decreases-division : goal.decreases-division
decreases-division l = 16 * l.room

abbrev pub decreases-group : goal.decreases-group
decreases-group l = 16 * l.room + 4

abbrev pub decreases-named : goal.decreases-named
decreases-named l = 16 * l.room + 3

abbrev pub decreases-subscripts : goal.decreases-subscripts
decreases-subscripts l = 16 * l.room + 2

abbrev pub decreases-held : goal.decreases-held
decreases-held l = 16 * l.room

abbrev pub decreases-arguments : goal.decreases-arguments
decreases-arguments l = 16 * l.room

abbrev pub invariant-terms-loop-turn : goal.invariant-terms-loop-turn
invariant-terms-loop-turn l = terms (unary l.room) l.fn.first l.fn.tokens ≡ repeat_from sign_of link (term l.room) (l._turn-end - l._turn) l.links l.tokens

abbrev pub invariant-factors-loop-turn : goal.invariant-factors-loop-turn
invariant-factors-loop-turn l = factors (unary l.room) l.fn.first l.fn.tokens ≡ repeat_from star_of link (unary l.room) (l._turn-end - l._turn) l.links l.tokens

abbrev pub invariant-list-loop-turn : goal.invariant-list-loop-turn
invariant-list-loop-turn l = list (expr l.room) l.fn.tokens ≡ repeat_from comma_of list_item (expr l.room) (l._turn-end - l._turn) l.items l.tokens

abbrev pub invariant-subscripts-loop-turn : goal.invariant-subscripts-loop-turn
invariant-subscripts-loop-turn l = subscripts (below l.room) l.fn.tokens ≡ many_from (is OpenBracket) add_item (within (below l.room) expr_of CloseBracket) (l._turn-end - l._turn) l.subs l.tokens
