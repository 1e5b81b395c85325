use Rattle.ac_prooftext.proofs.Taking.{no_format}
use Rattle.ac_prooftext.proofs.lines.LineReader.take_format.Goals as goal

pub returns-in_default : goal.returns-in_default
returns-in_default c = λ ls h. no_format ls c.args.self.now c.args.line.now c.requires h c.in_default.ensures
