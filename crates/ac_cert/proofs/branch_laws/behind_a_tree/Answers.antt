use Rattle.ac_cert.proofs.Apart.{tree-apart}
use Rattle.ac_cert.proofs.branch_laws.behind_a_tree.Goals as goal

pub returns : goal.returns
returns g c = λ refusal d h. tree-apart c.args.tree.now refusal d h
