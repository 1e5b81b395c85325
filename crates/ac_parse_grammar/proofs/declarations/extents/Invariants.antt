use Rattle.std.proofs.Common.{◌≡◌, ◌-◌}
use Rattle.ac_parse_grammar.specs.declared.terminal.Terminal.TheVariants as t
use Rattle.ac_parse_grammar.specs.ReaderCombinators.{is, many_from}
use Rattle.ac_parse_grammar.specs.DeclarationsReading.{extent, extents, one_more}
use Rattle.ac_parse_grammar.proofs.declarations.extents.Given as goal

abbrev pub invariant-loop-turn : goal.invariant-loop-turn
invariant-loop-turn l = extents l.room l.fn.tokens ≡ many_from (is t.OpenBracket) one_more (extent l.room) (l._turn-end - l._turn) l.all l.tokens
