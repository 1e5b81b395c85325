use Rattle.std.proofs.Common.{length}
use Rattle.ac_cert_short.specs.CertificateNodes.Nodes.{none}
use Rattle.ac_cert_short.specs.Drafts.{back_kids}
use Rattle.ac_cert_short.proofs.Shapes.{KidsDone}
use Rattle.ac_cert_short.proofs.drafting.+drafting.Given as goal

abbrev pub invariant-drafted_residue-loop-kid : goal.invariant-drafted_residue-loop-kid
invariant-drafted_residue-loop-kid l = KidsDone l.fn.kids.items l.left.items l.fn.uses.items l.uses.items (back_kids l.made.items none)

abbrev pub decreases-drafted_residue-loop-kid : goal.decreases-drafted_residue-loop-kid
decreases-drafted_residue-loop-kid l = length l.left.items
