use Rattle.std.proofs.Common.{length}
use Rattle.ac_cert.specs.AcceptedTrees.{absurd_refusals}
use Rattle.ac_base.proofs.Bits.{again_128}
use Rattle.ac_omega_certify.proofs.Classes.{branch-stands}
use Rattle.ac_omega_certify.proofs.residues.class_tree.Goals as goal

pub returns : goal.returns
returns c = λ d short each.
    let accepted = rw (again_128 c.args.modulus c.ranges.modulus) at c.residue_tree.ensures.accepted in
    accepted absurd_refusals d (branch-stands (length c.args.kids.items) d.columns c.args.modulus c.args.form c.requires.each c.requires.some short c.requires.room) each
