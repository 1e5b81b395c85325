use Rattle.ac_syntax.specs.Index.{point}
use Rattle.ac_syntax.proofs.Exact.{checked_exact}
use Rattle.ac_syntax.proofs.tree.IndexExpr.value.Goals as goal

pub returns-clause-value : goal.returns-clause-value
returns-clause-value c = rw c.sum_form.ensures (checked_exact (point c.args.params.now c.args.iters.now) c.args.self.now)
