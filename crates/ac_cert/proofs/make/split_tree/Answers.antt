use Rattle.ac_cert.proofs.Making.{split-accepted}
use Rattle.ac_cert.proofs.make.split_tree.Goals as goal

pub returns-clause-accepted : goal.returns-clause-accepted
returns-clause-accepted g c = λ refusal d a b is al ar.
    split-accepted c.new-3.result c.args.e c.in_ok-left.left c.in_ok-right.right refusal d a b c.new-3.ensures is (rw c.in_ok-left.ensures.ok al) (rw c.in_ok-right.ensures.ok ar)
