use Rattle.std.proofs.Common.{◌≡◌, ◌-◌}
use Rattle.ac_parse_grammar.specs.ReaderCombinators.{many_from, name}
use Rattle.ac_parse_grammar.specs.Terminals.{is_name}
use Rattle.ac_parse_grammar.specs.DeclarationsReading.{one_more}
use Rattle.ac_parse_grammar.specs.PragmasReading.{names}
use Rattle.ac_parse_grammar.proofs.pragmas.names.Given as goal

abbrev pub invariant-loop-turn : goal.invariant-loop-turn
invariant-loop-turn l = names l.fn.tokens ≡ many_from is_name one_more name (l._turn-end - l._turn) l.all l.tokens
