use Rattle.std.proofs.Common.{arith}
use Rattle.ac_parse_grammar.proofs.Spellings.{all_read}
use Rattle.ac_parse_grammar.proofs.words.number.Goals as goal

pub returns : goal.returns
returns c = all_read c.args.text.now c.loop-digit.digit-index c.loop-digit.number c.loop-digit.invariant (omega (arith, c.loop-digit-test.false))
