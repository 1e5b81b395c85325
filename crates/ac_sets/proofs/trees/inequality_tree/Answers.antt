use Rattle.std.proofs.Common.{arith}
use Rattle.ac_cert.specs.RowBranches.{under}
use Rattle.ac_sets.proofs.trees.inequality_tree.Goals as goal

pub returns : goal.returns
returns c = λ columns count short refusal d e l stand on.
    c.in_ok-tree.ensures refusal d (omega (arith, short, e)) (c.at_piece-below.ensures refusal (under d c.args.form.now) stand) on
