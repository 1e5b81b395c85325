use Rattle.std.proofs.Common.{rules}
use Rattle.ac_prooftext_lines.proofs.Numerals.{parsed}
use Rattle.ac_prooftext_lines.proofs.numbers.canonical.Goals as goal

pub returns-in_default : goal.returns-in_default
returns-in_default c = λ n fits e. absurd (search (rules, parsed n c.args.text.now c.parse.result fits e c.parse.ensures.value.0))

pub returns-else-eq : goal.returns-else-eq
returns-else-eq c = λ n fits e. absurd (search (rules, parsed n c.args.text.now c.parse.result fits e c.parse.ensures.value.0))
