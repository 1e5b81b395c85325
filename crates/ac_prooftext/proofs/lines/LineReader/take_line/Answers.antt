use Rattle.ac_prooftext.proofs.Taking.{faulty}
use Rattle.ac_prooftext.proofs.lines.LineReader.take_line.Goals as goal

pub returns-in-Faulty-clause-ok : goal.returns-in-Faulty-clause-ok
returns-in-Faulty-clause-ok c = λ ls h. faulty ls c.args.self.now c.args.line.now c.in-Faulty.is h
