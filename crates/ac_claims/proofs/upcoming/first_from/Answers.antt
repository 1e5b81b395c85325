use Rattle.std.proofs.Common.{refl}
use Rattle.ac_claims_paths.specs.ModelCalls.{pairing}
use Rattle.ac_claims.proofs.UpcomingSteps.{settled_none}
use Rattle.ac_claims.proofs.upcoming.first_from.Goals as goal

pub returns : goal.returns
returns c = settled_none (pairing c.args.programs.now) c.args.claims.now c.args.from c.loop-i.i _ c.loop-i.invariant c.loop-i-test.false refl
