use Rattle.std.proofs.lemmas.Result.{IfOk-weaker}
use Rattle.ac_walk.proofs.Causing.{of_left, of_right, has_flow}
use Rattle.ac_walk.proofs.Flowing.{have_flows}
use Rattle.ac_walk.proofs.Gathered.{searched_proved}
use Rattle.ac_walk.specs.UnknownCauses.{left_model, right_model, searched}
use Rattle.ac_walk.proofs.proving.with_point.Goals as goal

pub with_flows-requires-clause-flows : goal.with_flows-requires-clause-flows
with_flows-requires-clause-flows c =
    have_flows c.args.pair.now c.args.left.now c.args.right.now c.in-Ok.found c.in-Ok-flow.found c.requires.pair c.requires.left c.requires.right c.in-Ok.ensures.cases c.in-Ok-flow.ensures.cases

pub returns-in-Err-clause-causes : goal.returns-in-Err-clause-causes
returns-in-Err-clause-causes c =
    IfOk-weaker c.unknown_all.result _ _
    (λ proved h. of_left c.args.limits.now.budget c.args.pair.now c.args.left.now c.in-Err.stop proved.verdicts c.requires.left c.requires.valuation c.in-Err.ensures.stops h)
    c.unknown_all.ensures.causes

pub returns-in-Err-flow-clause-causes : goal.returns-in-Err-flow-clause-causes
returns-in-Err-flow-clause-causes c =
    IfOk-weaker c.unknown_all-in-Err-flow.result _ _
    (λ proved h. of_right c.args.limits.now.budget c.args.pair.now c.args.right.now c.in-Err-flow.stop proved.verdicts c.requires.right c.requires.valuation
    (has_flow c.args.left.now (left_model c.args.pair.now) c.in-Ok.found c.requires.left c.in-Ok.ensures.cases c.in-Ok.ensures.sources) c.in-Err-flow.ensures.stops h)
    c.unknown_all-in-Err-flow.ensures.causes

pub with_flows-requires-clause-programs : goal.with_flows-requires-clause-programs
with_flows-requires-clause-programs c = record { paired = c.requires.pair; left = c.requires.left; right = c.requires.right }

pub returns-clause-proved : goal.returns-clause-proved
returns-clause-proved c = IfOk-weaker c.with_flows.result _ _ (λ proved h. searched_proved c.args.limits.now.budget c.args.pair.now c.args.pair.now.outputs proved h) c.with_flows.ensures

pub returns-clause-causes : goal.returns-clause-causes
returns-clause-causes c =
    let pair = c.args.pair.now in
    IfOk-weaker c.with_flows.result _ _
    (λ proved h. searched c.requires.valuation (has_flow c.args.left.now (left_model pair) c.in-Ok.found c.requires.left c.in-Ok.ensures.cases c.in-Ok.ensures.sources)
    (has_flow c.args.right.now (right_model pair) c.in-Ok-flow.found c.requires.right c.in-Ok-flow.ensures.cases c.in-Ok-flow.ensures.sources) h.searched)
    c.with_flows.ensures

pub returns-in-Err-clause-accepted : goal.returns-in-Err-clause-accepted
returns-in-Err-clause-accepted c = c.unknown_all.ensures.accepted c.requires.point

pub returns-in-Err-flow-clause-accepted : goal.returns-in-Err-flow-clause-accepted
returns-in-Err-flow-clause-accepted c = c.unknown_all-in-Err-flow.ensures.accepted c.requires.point

pub returns-clause-accepted : goal.returns-clause-accepted
returns-clause-accepted c = IfOk-weaker c.with_flows.result _ _ (λ proved h. h.valid.valid) c.with_flows.ensures

pub returns-clause-tried : goal.returns-clause-tried
returns-clause-tried c = IfOk-weaker c.with_flows.result _ _ (λ proved h. h.tried) c.with_flows.ensures

pub returns-in-Err-clause-tried : goal.returns-in-Err-clause-tried
returns-in-Err-clause-tried c = IfOk-weaker c.unknown_all.result _ _ (λ proved h. h c.args.limits.now.budget c.requires.samples) c.unknown_all.ensures.tried

pub returns-in-Err-flow-clause-tried : goal.returns-in-Err-flow-clause-tried
returns-in-Err-flow-clause-tried c = IfOk-weaker c.unknown_all-in-Err-flow.result _ _ (λ proved h. h c.args.limits.now.budget c.requires.samples) c.unknown_all-in-Err-flow.ensures.tried
