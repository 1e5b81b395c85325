use Rattle.ac_claims_paths.specs.ModelCalls.{pairing}
use Rattle.ac_claims_paths.proofs.Forming.{branches_result}
use Rattle.ac_claims_paths.proofs.going.branches.Goals as goal

pub returns-clause-formed : goal.returns-clause-formed
returns-clause-formed c = λ l r i. branches_result (pairing c.args.programs.now) c.args.order c.args.path.now c.branches_by.result l r i c.branches_by.ensures
