use Rattle.ac_cert.proofs.Making.{accepted-empty}
use Rattle.ac_cert.proofs.laws.accepted_is_empty.Goals as goal

pub returns : goal.returns
returns c = accepted-empty c.args.tree.now c.args.conj.now c.requires.made c.requires.accepted
