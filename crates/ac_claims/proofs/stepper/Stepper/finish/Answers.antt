use Rattle.ac_claims_paths.specs.ModelCalls.{pairing}
use Rattle.ac_claims.specs.CheckState.{state_of}
use Rattle.ac_claims.proofs.FeedSteps.{ok_answer, fault_answer}
use Rattle.ac_claims.proofs.stepper.Stepper.finish.Goals as goal

pub returns-in-Ok-clause-proof : goal.returns-in-Ok-clause-proof
returns-in-Ok-clause-proof c = λ p u e. ok_answer (pairing c.args.self.programs) c.args.self.outputs.now p (state_of c.args.self) c.in-Ok.outputs.items u e c.in-Ok.ensures.answer

pub returns-in-Err-clause-proof : goal.returns-in-Err-clause-proof
returns-in-Err-clause-proof c = λ p u e. fault_answer (pairing c.args.self.programs) c.args.self.outputs.now p (state_of c.args.self) c.in-Err.fault u e c.in-Err.ensures.refusal
