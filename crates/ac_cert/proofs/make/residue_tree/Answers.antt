use Rattle.ac_base.proofs.Bits.{read_back}
use mir.Syntax.{w128}
use mir.Val.{SFits}
use Rattle.ac_cert.proofs.Making.{residue-accepted}
use Rattle.ac_cert.proofs.make.residue_tree.Goals as goal

pub returns-clause-accepted : goal.returns-clause-accepted
returns-clause-accepted g c =
    let m : SFits w128 c.args.m = c.ranges.m in
    simp read_back (λ refusal d is each. residue-accepted c.new.result c.args.m c.args.e c.args.kids refusal d c.new.ensures is each)
