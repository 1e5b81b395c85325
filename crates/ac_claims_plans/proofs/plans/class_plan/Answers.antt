use Rattle.std.proofs.Common.{rules, ◌≡◌, ◌∷◌, List, subst}
use Rattle.ac_claims.specs.declared.types.Plan.{Plan}
use Rattle.ac_claims_plans.specs.PlanAcceptance.{BranchesTo}
use Rattle.ac_claims_plans.proofs.Makers.{class_made}
use Rattle.ac_claims_plans.proofs.plans.class_plan.Goals as goal

pub returns-clause-accepted : goal.returns-clause-accepted
returns-clause-accepted c =
    let are : c.append.new.self.items ≡ c.args.inside ∷ c.args.outside.items = search rules in
    class_made c.residue.result c.args.modulus.now c.args.form c.args.inside c.args.outside.items c.append.new.self.items are c.residue.ensures.accepted

pub returns-clause-branches : goal.returns-clause-branches
returns-clause-branches c =
    let are : c.append.new.self.items ≡ c.args.inside ∷ c.args.outside.items = search rules in
    subst (λ (ts : List Plan). BranchesTo ts c.residue.result.next) are c.residue.ensures.branches
