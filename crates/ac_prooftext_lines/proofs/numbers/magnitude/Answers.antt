use Rattle.ac_prooftext_lines.proofs.Numerals.{is_text}
use Rattle.ac_prooftext_lines.proofs.numbers.magnitude.Goals as goal

pub returns-in-Err : goal.returns-in-Err
returns-in-Err c = λ n fits e. c.in-Err.ensures.cases.0 (is_text n c.args.word.now fits e)
