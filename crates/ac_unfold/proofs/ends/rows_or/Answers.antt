use Rattle.std.proofs.Common.{◌≡◌, None}
use Rattle.ac_unfold.proofs.Stopped.{hands_because}
use Rattle.ac_unfold.proofs.ends.rows_or.Goals as goal

pub returns-in-None-clause-causes : goal.returns-in-None-clause-causes
returns-in-None-clause-causes c = hands_because c.args.node.now.question.conj (Unit {0}) (c.args.rows ≡ None) c.too_wide.result (λ _. c.in-None.is) c.too_wide.ensures
