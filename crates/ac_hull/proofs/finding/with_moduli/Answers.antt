use Rattle.std.proofs.Common.{rules}
use Rattle.ac_hull.proofs.Findings.{moduli_step, moduli_end}
use Rattle.ac_hull.proofs.finding.with_moduli.Goals as goal

pub loop-modulus-preserved : goal.loop-modulus-preserved
loop-modulus-preserved c =
    moduli_step c.args.points.now c.args.first c.args.second c.args.made c.loop-modulus.made c.in_ok-made.made c.args.moduli.now c.loop-modulus.modulus-index c.loop-modulus.invariant c.loop-modulus-test.true c.in_ok-made.ensures

pub returns : goal.returns
returns c = moduli_end c.args.points.now c.args.first c.args.second c.args.made c.loop-modulus.made c.args.moduli.now c.loop-modulus.modulus-index c.loop-modulus.invariant (search rules)
