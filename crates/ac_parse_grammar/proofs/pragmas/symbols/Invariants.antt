use Rattle.std.proofs.Common.{◌≡◌, ◌-◌}
use Rattle.ac_parse_grammar.specs.ReaderCombinators.{many_from}
use Rattle.ac_parse_grammar.specs.DeclarationsReading.{one_more}
use Rattle.ac_parse_grammar.specs.PragmasReading.{symbols, symbol, is_symbol}
use Rattle.ac_parse_grammar.proofs.pragmas.symbols.Given as goal

abbrev pub invariant-loop-turn : goal.invariant-loop-turn
invariant-loop-turn l = symbols l.fn.tokens ≡ many_from is_symbol one_more symbol (l._turn-end - l._turn) l.all l.tokens
