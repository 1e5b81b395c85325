use Rattle.std.proofs.Common.{◌≡◌, ◌-◌}
use Rattle.ac_parse_grammar.specs.ReaderCombinators.{repeat_from}
use Rattle.ac_parse_grammar.specs.DeclarationsReading.{list, declared, joined_by_comma}
use Rattle.ac_parse_grammar.specs.Expressions.{comma_of}
use Rattle.ac_parse_grammar.proofs.declarations.declared_list.Given as goal

abbrev pub invariant-loop-turn : goal.invariant-loop-turn
invariant-loop-turn l = list (declared l.room l.whole) l.fn.tokens ≡ repeat_from comma_of joined_by_comma (declared l.room l.whole) (l._turn-end - l._turn) l.all l.tokens
