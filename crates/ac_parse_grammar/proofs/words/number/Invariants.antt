use Rattle.std.proofs.Common.{◌≡◌, drop}
use Rattle.ac_parse_grammar.proofs.Spellings.{clamped}
use Rattle.ac_parse_grammar.proofs.words.number.Given as goal

abbrev pub invariant-loop-digit : goal.invariant-loop-digit
invariant-loop-digit l = clamped l.number (drop l.digit-index l.text) ≡ clamped 0 l.text
