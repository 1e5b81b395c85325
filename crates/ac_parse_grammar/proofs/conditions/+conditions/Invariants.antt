use Rattle.std.proofs.Common.{◌≡◌, ◌+◌, ◌*◌, ◌-◌}
use Rattle.ac_parse_grammar.specs.ReaderCombinators.{repeat_from}
use Rattle.ac_parse_grammar.specs.Expressions.{unary}
use Rattle.ac_parse_grammar.specs.Conditions.{parts, part, mixed_below, and_of, join_parts}
use Rattle.ac_parse_grammar.proofs.conditions.+conditions.Given as goal

abbrev pub decreases-either : goal.decreases-either
decreases-either l = 8 * l.room + 4

abbrev pub decreases-parts : goal.decreases-parts
decreases-parts l = 8 * l.room + 3

abbrev pub decreases-part : goal.decreases-part
decreases-part l = 8 * l.room + 2

abbrev pub decreases-mixed_part : goal.decreases-mixed_part
decreases-mixed_part l = 8 * l.room + 1

abbrev pub decreases-parenthesised : goal.decreases-parenthesised
decreases-parenthesised l = 8 * l.room

abbrev pub invariant-parts-loop-turn : goal.invariant-parts-loop-turn
invariant-parts-loop-turn l = parts (mixed_below l.room) (unary l.room) l.fn.first l.fn.tokens
    ≡ repeat_from and_of join_parts (part (mixed_below l.room) (unary l.room)) (l._turn-end - l._turn) l.all l.tokens
