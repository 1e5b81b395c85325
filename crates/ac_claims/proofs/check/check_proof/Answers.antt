use Rattle.ac_claims.specs.CheckState.{state_of}
use Rattle.ac_claims.specs.Soundness.{pairing_of}
use Rattle.ac_claims.proofs.FeedSteps.{whole_state, ok_answer, fault_answer, same_outputs}
use Rattle.ac_claims.proofs.check.check_proof.Goals as goal

pub returns-in-Ok-clause-valid : goal.returns-in-Ok-clause-valid
returns-in-Ok-clause-valid c =
    let g = pairing_of c.args.pair.now c.args.left.now c.args.right.now in
    let e = whole_state g c.args.pair.now.outputs c.args.proof.now c.new-stepper.result c.feed_proof.new.stepper c.new-stepper.ensures.state c.new-stepper.ensures.pairing c.new-stepper.ensures.outputs c.in_ok-feed_proof.ensures in
    (ok_answer g c.args.pair.now.outputs c.args.proof.now (state_of c.feed_proof.new.stepper) c.in-Ok.outputs.items c.requires.spelled e c.in-Ok.ensures.answer).0

pub returns-in-Ok-clause-outputs : goal.returns-in-Ok-clause-outputs
returns-in-Ok-clause-outputs c =
    let g = pairing_of c.args.pair.now c.args.left.now c.args.right.now in
    let e = whole_state g c.args.pair.now.outputs c.args.proof.now c.new-stepper.result c.feed_proof.new.stepper c.new-stepper.ensures.state c.new-stepper.ensures.pairing c.new-stepper.ensures.outputs c.in_ok-feed_proof.ensures in
    (ok_answer g c.args.pair.now.outputs c.args.proof.now (state_of c.feed_proof.new.stepper) c.in-Ok.outputs.items c.requires.spelled e c.in-Ok.ensures.answer).1

pub returns-in-Ok-clause-same : goal.returns-in-Ok-clause-same
returns-in-Ok-clause-same c =
    let g = pairing_of c.args.pair.now c.args.left.now c.args.right.now in
    let e = whole_state g c.args.pair.now.outputs c.args.proof.now c.new-stepper.result c.feed_proof.new.stepper c.new-stepper.ensures.state c.new-stepper.ensures.pairing c.new-stepper.ensures.outputs c.in_ok-feed_proof.ensures in
    let v = ok_answer g c.args.pair.now.outputs c.args.proof.now (state_of c.feed_proof.new.stepper) c.in-Ok.outputs.items c.requires.spelled e c.in-Ok.ensures.answer in
    same_outputs c.args.pair.now c.args.left.now c.args.right.now c.args.proof.now c.in-Ok.outputs.items c.requires.pair c.requires.models c.requires.claims v

pub returns-in-Err-clause-fault : goal.returns-in-Err-clause-fault
returns-in-Err-clause-fault c =
    let g = pairing_of c.args.pair.now c.args.left.now c.args.right.now in
    let e = whole_state g c.args.pair.now.outputs c.args.proof.now c.new-stepper.result c.feed_proof.new.stepper c.new-stepper.ensures.state c.new-stepper.ensures.pairing c.new-stepper.ensures.outputs c.in_ok-feed_proof.ensures in
    fault_answer g c.args.pair.now.outputs c.args.proof.now (state_of c.feed_proof.new.stepper) c.in-Err.fault c.requires.spelled e c.in-Err.ensures.refusal
