use Rattle.ac_prooftext_lines.proofs.Numerals.{from_negative, from_positive}
use Rattle.ac_prooftext_lines.proofs.numbers.integer.Goals as goal

pub returns-in-Some : goal.returns-in-Some
returns-in-Some c = from_negative c.args.word.now c.in-Some.digits.now c.negative.result c.in-Some.ensures c.negative.ensures

pub returns-in-None : goal.returns-in-None
returns-in-None c = from_positive c.args.word.now c.positive.result c.in-None.ensures c.positive.ensures
