use Rattle.std.proofs.Common.{◌≡◌, ◌+◌, ◌*◌, ◌-◌, ◌++◌}
use Rattle.ac_parse_grammar.specs.ReaderCombinators.{many_from}
use Rattle.ac_parse_grammar.specs.StatementsReading.{statement, statements, begins_statement}
use Rattle.ac_parse_grammar.proofs.statements.+statements.Given as goal

abbrev pub decreases-statements : goal.decreases-statements
decreases-statements l = 4 * l.room + 3

abbrev pub decreases-statement : goal.decreases-statement
decreases-statement l = 4 * l.room + 2

abbrev pub decreases-block : goal.decreases-block
decreases-block l = 4 * l.room + 1

abbrev pub decreases-repetition : goal.decreases-repetition
decreases-repetition l = 4 * l.room + 1

abbrev pub decreases-branch : goal.decreases-branch
decreases-branch l = 4 * l.room + 1

abbrev pub decreases-otherwise : goal.decreases-otherwise
decreases-otherwise l = 4 * l.room + 3

abbrev pub invariant-statements-loop-turn : goal.invariant-statements-loop-turn
invariant-statements-loop-turn l = statements l.room l.fn.tokens ≡ many_from begins_statement ◌++◌ (statement l.room) (l._turn-end - l._turn) l.all l.tokens
