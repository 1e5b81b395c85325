use Rattle.std.proofs.Common.{rules, ◌≡◌, to_z, of_z}
use Rattle.std.specs.Int.{w128}
use Rattle.ac_claims_plans.proofs.Makers.{residue_made}
use Rattle.ac_claims_plans.proofs.Branched.{residue_branches}
use Rattle.ac_claims_plans.proofs.plans.residue.Goals as goal

pub returns-clause-accepted : goal.returns-clause-accepted
returns-clause-accepted c =
    let m = c.args.modulus.now in
    let same : to_z w128 (of_z w128 m) ≡ m = search rules in
    residue_made c.plan_of.result m (to_z w128 (of_z w128 m)) c.args.form c.args.kids c.plan_of.ensures.steps c.plan_of.ensures.next same

pub returns-clause-branches : goal.returns-clause-branches
returns-clause-branches c = residue_branches c.plan_of.result (to_z w128 (of_z w128 c.args.modulus.now)) c.args.form c.args.kids c.plan_of.ensures.next
