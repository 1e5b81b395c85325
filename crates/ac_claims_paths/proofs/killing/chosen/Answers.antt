use Rattle.ac_claims_paths.proofs.CopySteps.{chosen_result}
use Rattle.ac_claims_paths.proofs.killing.chosen.Goals as goal

pub returns-clause-made : goal.returns-clause-made
returns-clause-made c = chosen_result c.args.columns c.args.own c.args.choice.now c.args.conj.now c.left_by.result c.requires c.left_by.ensures
