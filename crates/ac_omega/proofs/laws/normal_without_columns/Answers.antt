use Rattle.ac_omega.proofs.Emptied.{no-columns}
use Rattle.ac_omega.proofs.laws.normal_without_columns.Goals as goal

pub returns : goal.returns
returns c = no-columns c.args.conj.now c.requires.made c.requires.normal c.requires.not_absurd c.requires.absent
