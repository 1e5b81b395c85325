use Rattle.std.proofs.Common.{FitsSigned, w64, rules}
use Rattle.std.proofs.lemmas.Int.{to_z-of_z}
use Rattle.ac_syntax.specs.Index.{point}
use Rattle.ac_syntax.proofs.Exact.{argument_exact}
use Rattle.ac_syntax.proofs.tree.Quot.argument.Goals as goal

pub returns-clause-value : goal.returns-clause-value
returns-clause-value c =
    let k : FitsSigned w64 c.args.self.now.konst = search rules in
    let e = simp to_z-of_z at c.sum_plain.ensures in
    rw (e, c.as_slice.ensures, c.as_slice-2.ensures) (argument_exact (point c.args.params.now c.args.iters.now) c.args.self.now)
