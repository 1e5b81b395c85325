use Rattle.std.proofs.Common.{◌+◌, [], List, take, sym, subst}
use Rattle.std.proofs.lemmas.List.{take_all}
use Rattle.ac_claims_plans.specs.declared.branching.Part.{Part}
use Rattle.ac_unfold.specs.UnfoldTasks.{AreBeside}
use Rattle.ac_unfold.proofs.KillTasks.{beside_more, beside_none}
use Rattle.ac_unfold.proofs.Results.{next_item}
use Rattle.ac_unfold.proofs.kills.beside.Goals as goal

pub loop-part-init : goal.loop-part-init
loop-part-init c = subst (AreBeside c.args.node.now c.args.case.now c.args.number []) (sym c.new-made.ensures.items) (beside_none c.args.node.now c.args.case.now c.args.number)

pub loop-part-preserved : goal.loop-part-preserved
loop-part-preserved c =
    let n = c.args.node.now in
    let ps = c.args.parts.now in
    let p = c.part-item.result in
    let i = c.loop-part.part-index in
    subst (AreBeside n c.args.case.now c.args.number (take (i + 1) ps)) (sym c.in_ok-push.ensures.items)
    (beside_more n c.in_ok-side.side c.args.case c.args.number (take i ps) (take (i + 1) ps) c.loop-part.made.items p c.loop-part.invariant (next_item ps i p c.loop-part-test.true c.part-item.is)
    (record { question = c.in_ok-side.ensures.question; embedding = c.in_ok-side.ensures.embedding; pair_path = c.in_ok-side.ensures.pair_path }))

pub returns : goal.returns
returns c = subst (λ (xs : List Part). AreBeside c.args.node.now c.args.case.now c.args.number xs c.loop-part.made.items) (take_all c.loop-part.part-index c.args.parts.now c.loop-part-test.false) c.loop-part.invariant
