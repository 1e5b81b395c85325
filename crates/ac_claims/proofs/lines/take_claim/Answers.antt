use Rattle.std.proofs.Common.{sym, ◌∙◌}
use Rattle.ac_claims_paths.specs.ModelCalls.{pairing}
use Rattle.ac_claims.proofs.LineSteps.{made_opened}
use Rattle.ac_claims.proofs.lines.take_claim.Goals as goal

pub returns-in_ok-open_claim-in-Some-clause-made : goal.returns-in_ok-open_claim-in-Some-clause-made
returns-in_ok-open_claim-in-Some-clause-made c = made_opened (pairing c.args.programs.now) c.args.left c.args.right c.in-Some.columns c.args.front.now c.open_claim.new.self (sym c.in-Some.is ∙ c.in_ok-columns.ensures) c.in_ok-open_claim-in-Some.ensures.ok
