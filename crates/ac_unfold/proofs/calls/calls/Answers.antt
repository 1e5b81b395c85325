use Rattle.std.proofs.Common.{◌≡◌, List, Option, sym, subst}
use Rattle.ac_claims_paths.specs.BranchPaths.{all_onto}
use Rattle.ac_claims_paths.specs.PathSteps.{branches}
use Rattle.ac_claims_paths.specs.WellFormedPaths.{AreFormedIf}
use Rattle.ac_claims_paths.specs.declared.path.Branch.{Branch}
use Rattle.ac_unfold.specs.PlanResults.{judge_of}
use Rattle.ac_unfold.proofs.CallTasks.{calls_unfold}
use Rattle.ac_unfold.proofs.PairTasks.{handed_never}
use Rattle.ac_unfold.proofs.Places.{calls_stop, past_handed}
use Rattle.ac_unfold.proofs.calls.calls.Goals as goal

pub returns-clause-unfolds : goal.returns-clause-unfolds
returns-clause-unfolds c =
    let s = c.args.search.now in
    let n = c.args.node.now in
    let q = n.question in
    calls_unfold s n c.args.order c.in-Some.found c.in_ok-behind.behind.items c.in_ok-more.more.items c.args.plans.now.items c.with_step.new.plans.items c.requires.kind c.requires.calls c.requires.may
    (subst (λ (o : Option (List Branch)). all_onto q o ≡ branches (judge_of s) c.args.order q) c.in-Some.is c.in_ok-found.ensures.value)
    (λ hl hr f. subst (λ (o : Option (List Branch)). AreFormedIf (judge_of s).params (all_onto q o)) c.in-Some.is (c.in_ok-found.ensures.formed hl hr f)) c.in_ok-behind.ensures c.in_ok-more.ensures

pub returns-in_default-clause-causes : goal.returns-in_default-clause-causes
returns-in_default-clause-causes c =
    let s = c.args.search.now in
    let q = c.args.node.now.question in
    past_handed s c.args.node.now.pair_path q c.too_wide.result c.requires.may.unclaimed.none
    (calls_stop s c.args.node.now.pair_path q c.args.order c.too_wide.result c.requires.kind c.requires.calls (sym (subst (λ (o : Option (List Branch)). all_onto q o ≡ branches (judge_of s) c.args.order q) c.in_default.is c.in_ok-found.ensures.value)) c.too_wide.ensures)

pub returns-in_default-clause-never : goal.returns-in_default-clause-never
returns-in_default-clause-never c = handed_never c.args.node.now.question.conj (Unit {0}) c.too_wide.result c.too_wide.ensures
