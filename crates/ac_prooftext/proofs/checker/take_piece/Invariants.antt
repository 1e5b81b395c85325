use Rattle.std.proofs.Common.{length}
use Rattle.ac_claims_paths.specs.ModelCalls.{pairing}
use Rattle.ac_claims.specs.CheckState.{IsSteady}
use Rattle.ac_prooftext.proofs.Streams.{IsTaken}
use Rattle.ac_prooftext.proofs.checker.take_piece.Given as goal

abbrev pub invariant-loop-head : goal.invariant-loop-head
invariant-loop-head l = record {
  steady : IsSteady l.stepper;
  taken : IsTaken (pairing l.fn.stepper.programs) l.fn.stepper.outputs.now l.fn.line.items l.fn.reader l.fn.stepper l.piece l.rest l.line.items l.reader l.stepper;
}

abbrev pub decreases-loop-head : goal.decreases-loop-head
decreases-loop-head l = length l.rest
