use Rattle.ac_cert.proofs.EveryNumber.{tree-at}
use Rattle.ac_cert.proofs.laws.acceptance_at_every_number.Goals as goal

pub returns : goal.returns
returns g c = λ refusal d k none. tree-at c.args.tree.now refusal d k none
