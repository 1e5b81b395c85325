use Rattle.std.proofs.Common.{◌≡◌, get_or, ap, true, subst}
use Rattle.std.proofs.lemmas.Result.{IfOk-weaker}
use Rattle.ac_poly.specs.declared.types.Model.{Model}
use Rattle.ac_claims.specs.ProofFaults.{is_point}
use Rattle.ac_walk_state.proofs.ContextPoints.{tested_points}
use Rattle.ac_walk.specs.UnknownCauses.{left_model}
use Rattle.ac_walk.proofs.Causing.{has_valuation}
use Rattle.ac_walk.proofs.Samples.{point_samples}
use Rattle.ac_walk.proofs.proving.prove.Goals as goal

pub with_point-requires-clause-valuation : goal.with_point-requires-clause-valuation
with_point-requires-clause-valuation c =
    let default = c.index-models-0.result in
    has_valuation c.args.limits.now.budget (get_or c.args.models.now 0 default) (left_model c.args.pair.now) c.in-Ok.point.items (ap (λ ms. get_or ms 0 default) c.requires.models) c.in-Ok.ensures.exact c.in-Ok.ensures.point.0 c.in-Ok.ensures.point.1

pub returns-in-Err-clause-accepted : goal.returns-in-Err-clause-accepted
returns-in-Err-clause-accepted c = IfOk-weaker c.without_point.result _ _ (λ p none v. absurd (none v)) c.without_point.ensures.valuation

pub with_point-requires-clause-point : goal.with_point-requires-clause-point
with_point-requires-clause-point c =
    let default = c.index-models-0.result in
    let point = c.in-Ok.point.items in
    subst (λ (m : Model). is_point m point ≡ true) (ap (λ ms. get_or ms 0 default) c.requires.models) (tested_points (get_or c.args.models.now 0 default) point c.in-Ok.ensures.point.0 c.in-Ok.ensures.exact.1 c.in-Ok.ensures.point.1)

pub with_point-requires-clause-samples : goal.with_point-requires-clause-samples
with_point-requires-clause-samples c =
    let default = c.index-models-0.result in
    point_samples c.args.limits.now.budget c.args.pair.now (get_or c.args.models.now 0 default) c.in-Ok.point.items (ap (λ ms. get_or ms 0 default) c.requires.models) c.in-Ok.ensures.exact c.in-Ok.ensures.point.0
