use Rattle.std.proofs.Common.{List, [], ℤ, get_or, sym, ap, subst, ◌∙◌, arith}
use Rattle.ac_unfold_plans.specs.PlanStops.{programs_of}
use Rattle.ac_walk.specs.TriedValuations.{IsLeft, samples_of}
use Rattle.ac_walk.proofs.Lists.{get_some}
use Rattle.ac_walk.proofs.Gathered.{AreLeft, left_more, none_left}
use Rattle.ac_walk.proofs.unanswered.unknown_all.Goals as goal

pub loop-number-init : goal.loop-number-init
loop-number-init c =
    let samples = samples_of c.args.pair.now c.args.point.items in
    subst (AreLeft c.args.pair.now samples c.args.stop.now []) (sym c.new-verdicts.ensures) (none_left c.args.pair.now samples c.args.stop.now)

pub returns-clause-accepted : goal.returns-clause-accepted
returns-clause-accepted c = λ point. (c.empty_proof.ensures.accepted (programs_of c.args.pair.now) c.args.pair.now.outputs point tt).valid

pub loop-number-preserved : goal.loop-number-preserved
loop-number-preserved c =
    let pair = c.args.pair.now in
    let samples = samples_of pair c.args.point.items in
    let number = c.loop-number.number in
    let left = subst (λ (s : List (List ℤ)). IsLeft pair s number c.in_ok-cause.cause c.in_ok-left.left) (c.as_slice-in-loop-number.ensures ∙ c.in_ok-samples.ensures ∙ ap (samples_of pair) c.as_slice.ensures.value) c.in_ok-left.ensures in
    left_more pair samples c.args.stop.now number (get_or pair.outputs number 0) c.in_ok-cause.cause c.loop-number.verdicts c.push.new.self c.in_ok-left.left (get_some pair.outputs number 0 (omega arith)) c.in_ok-cause.ensures c.loop-number.invariant left c.in_ok-push.ensures.ok
