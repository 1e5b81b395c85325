use Rattle.std.proofs.Common.{◌≡◌, ◌++◌, ◌∷◌, [], List, length, sym, ◌∙◌, subst}
use Rattle.std.proofs.lemmas.Iterator.Adapters.{YieldsList-from_vec}
use Rattle.std.proofs.lemmas.Iterator.Consumers.{YieldsList-end}
use Rattle.std.specs.Vec.Iter.{into_iter_len}
use Rattle.ac_claims_paths.specs.declared.path.Branch.{Branch}
use Rattle.ac_unfold.specs.UnfoldTasks.{AreVisits}
use Rattle.ac_unfold.proofs.CallTasks.{visits_more, visits_none}
use Rattle.ac_unfold.proofs.Stepping.{map_itself}
use Rattle.ac_unfold.proofs.calls.visits.Goals as goal

pub loop-branch-init : goal.loop-branch-init
loop-branch-init c = subst (AreVisits c.args.node.now []) (sym c.new-made.ensures.items) (visits_none c.args.node.now)

pub loop-branch-preserved : goal.loop-branch-preserved
loop-branch-preserved c =
    let n = c.args.node.now in
    let k = c.in_ok-child.child in
    subst (AreVisits n (c.loop-branch.yielded ++ c.in-Some.branch ∷ [])) (sym c.in_ok-push.ensures.items)
    (visits_more n k c.loop-branch.yielded c.loop-branch.made.items c.in-Some.branch c.loop-branch.invariant (record { question = c.in_ok-child.ensures.question; embedding = c.in_ok-child.ensures.embedding; pair_path = c.in_ok-child.ensures.pair_path }))

pub returns : goal.returns
returns c =
    let v = c.into_vec-branch-items.result in
    let it = c.into_iter-branch-iterator.result in
    let many : into_iter_len it ≡ length v.items = c.into_iter-branch-iterator.ensures.into_iter_gives.1 ∙ v.ok.0 in
    let y = YieldsList-end (YieldsList-from_vec {s = it} v.items c.into_iter-branch-iterator.ensures.into_iter_gives.0 many) c.loop-branch.yielded c.loop-branch.branch-iterator c.loop-branch.yielded_by c.next.result c.next.new.self c.in-None.is c.next.ensures.steps in
    let all : c.loop-branch.yielded ≡ c.args.found = sym (map_itself c.loop-branch.yielded) ∙ y.0 ∙ c.into_vec-branch-items.ensures in
    subst (λ (bs : List Branch). AreVisits c.args.node.now bs c.loop-branch.made.items) all c.loop-branch.invariant
