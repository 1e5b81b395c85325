use Rattle.std.proofs.Common.{◌≡◌, ◌-◌}
use Rattle.ac_parse_grammar.specs.declared.terminal.Terminal.TheVariants as t
use Rattle.ac_parse_grammar.specs.ReaderCombinators.{is, many_from}
use Rattle.ac_parse_grammar.specs.DeclarationsReading.{one_more}
use Rattle.ac_parse_grammar.specs.PragmasReading.{pragma, pragmas}
use Rattle.ac_parse_grammar.proofs.pragmas.pragmas.Given as goal

abbrev pub invariant-loop-turn : goal.invariant-loop-turn
invariant-loop-turn l = pragmas l.room l.fn.tokens ≡ many_from (is t.PragmaStart) one_more (pragma l.room) (l._turn-end - l._turn) l.all l.tokens
