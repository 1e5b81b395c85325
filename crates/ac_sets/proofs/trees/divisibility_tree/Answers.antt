use Rattle.ac_cert.specs.RowBranches.{with_rest}
use Rattle.ac_sets.proofs.trees.divisibility_tree.Goals as goal

pub returns : goal.returns
returns c = (
  c.requires.fits,
  λ refusal d e l stand on.
      c.in_ok-tree.ensures refusal d e l (c.at_piece-between.ensures refusal (with_rest d c.args.modulus.now c.args.form.now) stand) on,
)
