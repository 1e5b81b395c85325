use Rattle.std.proofs.Common.{◌≡◌, ◌-◌, ◌++◌}
use Rattle.ac_parse_grammar.specs.ReaderCombinators.{many_from}
use Rattle.ac_parse_grammar.specs.DeclarationsReading.{declaration, declarations, begins_type}
use Rattle.ac_parse_grammar.proofs.declarations.declarations.Given as goal

abbrev pub invariant-loop-turn : goal.invariant-loop-turn
invariant-loop-turn l = declarations l.room l.fn.tokens ≡ many_from begins_type ◌++◌ (declaration l.room) (l._turn-end - l._turn) l.all l.tokens
