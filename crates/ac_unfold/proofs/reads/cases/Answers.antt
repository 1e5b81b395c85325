use Rattle.std.proofs.Common.{◌≡◌, ◌+◌, ◌++◌, ◌∷◌, [], List, length, sym, ◌∙◌, subst, rules}
use Rattle.std.proofs.lemmas.Iterator.Adapters.{YieldsList-from_vec}
use Rattle.std.proofs.lemmas.Iterator.Consumers.{YieldsList-end}
use Rattle.std.specs.Vec.Iter.{into_iter_len}
use Rattle.ac_claims_paths.specs.declared.path.Branch.{Branch}
use Rattle.ac_unfold.specs.UnfoldTasks.{AreCases}
use Rattle.ac_unfold.specs.declared.tasks.Task.{Task}
use Rattle.ac_unfold.specs.declared.tasks.Task.TheVariants as task
use Rattle.ac_unfold.proofs.ReadTasks.{cases_more, cases_none}
use Rattle.ac_unfold.proofs.Stepping.{map_itself}
use Rattle.ac_unfold.proofs.reads.cases.Goals as goal

pub loop-branch-init : goal.loop-branch-init
loop-branch-init c = subst (AreCases c.args.search.now c.args.node.now c.args.side c.args.flow.now 0 []) (sym c.new-made.ensures.items) (cases_none c.args.search.now c.args.node.now c.args.side c.args.flow.now)

pub loop-branch-preserved : goal.loop-branch-preserved
loop-branch-preserved c =
    let s = c.args.search.now in
    let n = c.args.node.now in
    let f = c.args.flow.now in
    let number : c.len.result ≡ 0 + length c.loop-branch.made.items = search rules in
    subst (AreCases s n c.args.side f 0 (c.loop-branch.yielded ++ c.in-Some.branch ∷ [])) (sym {A = List Task} c.in_ok-push.ensures.items)
    (cases_more s n c.args.side f 0 c.len.result c.loop-branch.yielded c.loop-branch.made.items c.in-Some.branch (task.Case c.in_ok-child.child c.in-Some-case_of.case) c.loop-branch.invariant number
    (record { question = c.in_ok-child.ensures.question; embedding = c.in_ok-child.ensures.embedding; pair_path = c.in_ok-child.ensures.pair_path }, c.in-Some-case_of.ensures.assumed, c.in-Some-case_of.ensures.number))

pub returns : goal.returns
returns c =
    let v = c.into_vec-branch-items.result in
    let it = c.into_iter-branch-iterator.result in
    let many : into_iter_len it ≡ length v.items = c.into_iter-branch-iterator.ensures.into_iter_gives.1 ∙ v.ok.0 in
    let y = YieldsList-end (YieldsList-from_vec {s = it} v.items c.into_iter-branch-iterator.ensures.into_iter_gives.0 many) c.loop-branch.yielded c.loop-branch.branch-iterator c.loop-branch.yielded_by c.next.result c.next.new.self c.in-None.is c.next.ensures.steps in
    let all : c.loop-branch.yielded ≡ c.args.found = sym (map_itself c.loop-branch.yielded) ∙ y.0 ∙ c.into_vec-branch-items.ensures in
    subst (λ (bs : List Branch). AreCases c.args.search.now c.args.node.now c.args.side c.args.flow.now 0 bs c.loop-branch.made.items) all c.loop-branch.invariant
