use Rattle.std.proofs.Common.{◌≡◌, ◌++◌, inl, refl}
use Rattle.ac_claims_plans.specs.PlanAcceptance.{ends}
use Rattle.ac_claims_plans.proofs.Makers.{behind_made}
use Rattle.ac_claims_plans.proofs.plans.behind.Goals as goal

pub returns-clause-accepted : goal.returns-clause-accepted
returns-clause-accepted c =
    let all : c.from.result ≡ c.args.steps ++ c.args.plan.steps = rw (c.from.ensures, c.in_ok-append.ensures.items, c.into_vec-all.ensures, c.into_vec-further.ensures) refl in
    behind_made c.args.steps c.from.result c.args.plan.steps c.args.plan.next all

pub returns-clause-branches : goal.returns-clause-branches
returns-clause-branches c = ends c.args.plan (inl refl)
