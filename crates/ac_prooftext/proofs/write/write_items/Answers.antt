use Rattle.ac_prooftext.proofs.WriteSteps.{proof_added}
use Rattle.ac_prooftext.proofs.write.write_items.Goals as goal

pub returns : goal.returns
returns c =
    proof_added c.args.proof.now c.as_slice.result.now c.as_slice-2.result.now c.as_slice-3.result.now c.args.text.now c.write_head.new.text c.write_all_claims.new.text c.write_outputs.new.text c.write_all_trees.new.text c.as_slice.ensures c.as_slice-2.ensures c.as_slice-3.ensures.value c.in_ok-write_head.ensures c.in_ok-write_all_claims.ensures c.in_ok-write_outputs.ensures c.in_ok-write_all_trees.ensures
