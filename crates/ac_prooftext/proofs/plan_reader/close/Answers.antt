use Rattle.std.proofs.Common.{subst}
use Rattle.ac_prooftext.specs.ProofAssembly.{IsJoined, opened_of}
use Rattle.ac_prooftext.proofs.Joining.{goes_around}
use Rattle.ac_prooftext.proofs.plan_reader.close.Goals as goal

pub loop-branch-preserved : goal.loop-branch-preserved
loop-branch-preserved c = λ new w h.
    c.loop-branch.invariant new w
    (goes_around c.loop-branch.branches c.pop.new.self c.in-Some.branch c.loop-branch.plan c.in-Whole.whole c.in-Some.ensures (subst (IsJoined (opened_of c.in-Some.branch) c.loop-branch.plan) c.in-Whole.is c.in_ok-branch.ensures) new w h)
