use Rattle.ac_base.proofs.Bits.{read_back}
use mir.Syntax.{w128}
use mir.Val.{SFits}
use Rattle.ac_prooftext.proofs.Joining.{residue_is}
use Rattle.ac_prooftext.proofs.forks.residue_next.Goals as goal

pub returns : goal.returns
returns c =
    let m : SFits w128 c.args.modulus = c.ranges.modulus in
    simp read_back (residue_is c.args.modulus c.args.form c.into_vec.result c.args.children c.into_vec.ensures)
