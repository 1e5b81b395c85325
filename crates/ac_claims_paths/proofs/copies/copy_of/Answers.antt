use Rattle.ac_claims_paths.specs.ModelCalls.{pairing}
use Rattle.ac_claims_paths.proofs.CopySteps.{copy_result}
use Rattle.ac_claims_paths.proofs.copies.copy_of.Goals as goal

pub returns-clause-made : goal.returns-clause-made
returns-clause-made c = copy_result (pairing c.args.programs.now) c.args.assumed.now c.args.numbers.now.stmt c.args.numbers.now.piece c.args.numbers.now.after c.args.numbers.now.before c.copy_at.result c.requires c.copy_at.ensures
