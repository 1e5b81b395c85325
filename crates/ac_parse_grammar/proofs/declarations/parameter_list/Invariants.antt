use Rattle.std.proofs.Common.{◌≡◌, ◌-◌}
use Rattle.ac_parse_grammar.specs.ReaderCombinators.{repeat_from}
use Rattle.ac_parse_grammar.specs.DeclarationsReading.{list, parameter, joined_by_comma}
use Rattle.ac_parse_grammar.specs.Expressions.{comma_of}
use Rattle.ac_parse_grammar.proofs.declarations.parameter_list.Given as goal

abbrev pub invariant-loop-turn : goal.invariant-loop-turn
invariant-loop-turn l = list (parameter l.room) l.fn.tokens ≡ repeat_from comma_of joined_by_comma (parameter l.room) (l._turn-end - l._turn) l.all l.tokens
