use Rattle.std.proofs.Common.{◌≡◌, Some, refl, rules, sym, ◌∙◌, subst}
use Rattle.std.proofs.lemmas.Result.{IfErr-weaker}
use Rattle.ac_forms.specs.Rows.{IsWellMade}
use Rattle.ac_claims.specs.RemainingPlans.{start_at}
use Rattle.ac_unfold.specs.PlanResults.{judge_of, IsOpen}
use Rattle.ac_unfold.specs.declared.decide.Opened.{Opened}
use Rattle.ac_unfold.proofs.Starts.{begun_refuted, begun_visited}
use Rattle.ac_unfold.specs.PlanGaps.{IsShownOpen}
use Rattle.ac_unfold.specs.BrokenPathResults.{IsFrom, KeepsPairPath}
use Rattle.ac_unfold.proofs.Missing.{finds_shown}
use Rattle.ac_unfold.proofs.Coming.{begun_broken, broken_none, on_ok}
use Rattle.ac_unfold.proofs.Full.{full_begun}
use Rattle.ac_unfold.proofs.Places.{begun_stops}
use Rattle.ac_unfold.specs.UnbrokenResults.{IsEmptyOpen}
use Rattle.ac_unfold.proofs.Unbroken.{begun_empty, begun_stands, none_by}
use Rattle.ac_unfold.proofs.starting.unfold_at.Goals as goal

pub returns-in-Empty-clause-begun : goal.returns-in-Empty-clause-begun
returns-in-Empty-clause-begun c =
    let s = c.args.search.now in
    let n = c.in_ok-node.node in
    let made : IsWellMade c.in-Some.path.conj = search rules in
    let starts : start_at (judge_of s) c.args.start.now c.args.left c.args.right ≡ Some c.in-Some.path = sym c.in_ok-path.ensures ∙ c.in-Some.is in
    begun_refuted s c.args.start.now c.args.left c.args.right c.in-Some.path n c.in-Empty.plan starts made c.in_ok-node.ensures.question c.in_ok-node.ensures.embedding (subst (λ (x : Opened). IsOpen n.embedding n.question x) c.in-Empty.is c.in_ok-question.ensures.open)

pub returns-in-On-clause-begun : goal.returns-in-On-clause-begun
returns-in-On-clause-begun c =
    let s = c.args.search.now in
    let n = c.in_ok-node.node in
    let made : IsWellMade c.in-Some.path.conj = search rules in
    let starts : start_at (judge_of s) c.args.start.now c.args.left c.args.right ≡ Some c.in-Some.path = sym c.in_ok-path.ensures ∙ c.in-Some.is in
    begun_visited c.visit.result s c.args.start.now c.args.left c.args.right c.in-Some.path n c.in-On.node starts made c.in_ok-node.ensures.question c.in_ok-node.ensures.embedding (subst (λ (x : Opened). IsOpen n.embedding n.question x) c.in-On.is c.in_ok-question.ensures.open) c.visit.ensures.made

pub returns-in-Empty-clause-broken : goal.returns-in-Empty-clause-broken
returns-in-Empty-clause-broken c = broken_none c.args.search.now (IsFrom c.args.start.now) _ _ refl

pub returns-in-On-clause-broken : goal.returns-in-On-clause-broken
returns-in-On-clause-broken c =
    let s = c.args.search.now in
    let n = c.in_ok-node.node in
    let made : IsWellMade c.in-Some.path.conj = search rules in
    let starts : start_at (judge_of s) c.args.start.now c.args.left c.args.right ≡ Some c.in-Some.path = sym c.in_ok-path.ensures ∙ c.in-Some.is in
    let opened = subst (λ (x : Opened). IsOpen n.embedding n.question x) c.in-On.is c.in_ok-question.ensures.open in
    let kept = subst (λ (x : Opened). KeepsPairPath n x) c.in-On.is c.in_ok-question.ensures.pair_path in
    on_ok c.visit.result _ _ (begun_broken s c.args.start.now c.args.left c.args.right c.in-Some.path n c.in-On.node _ _ starts made c.in_ok-node.ensures.question c.in_ok-node.ensures.pair_path opened.0 kept) c.visit.ensures.broken

pub returns-in-Empty-clause-missing : goal.returns-in-Empty-clause-missing
returns-in-Empty-clause-missing c = finds_shown c.args.search.now c.in-Empty.plan c.args.found_paths.now c.args.found_paths.now (λ on. subst IsShownOpen c.in-Empty.is (c.in_ok-question.ensures.shown on))

pub returns-in-On-clause-causes : goal.returns-in-On-clause-causes
returns-in-On-clause-causes c =
    let s = c.args.search.now in
    let n = c.in_ok-node.node in
    let starts : start_at (judge_of s) c.args.start.now c.args.left c.args.right ≡ Some c.in-Some.path = sym c.in_ok-path.ensures ∙ c.in-Some.is in
    let opened = subst (λ (x : Opened). IsOpen n.embedding n.question x) c.in-On.is c.in_ok-question.ensures.open in
    let made : IsWellMade c.in-Some.path.conj = search rules in
    let kept = subst (λ (x : Opened). KeepsPairPath n x) c.in-On.is c.in_ok-question.ensures.pair_path in
    begun_stops c.visit.result s c.args.start.now c.args.left c.args.right c.in-Some.path n c.in-On.node starts made c.in_ok-node.ensures.question c.in_ok-node.ensures.pair_path opened.0 kept c.visit.ensures.causes

-- ---- too many paths

pub returns-in-On-clause-full : goal.returns-in-On-clause-full
returns-in-On-clause-full c =
    let s = c.args.search.now in
    let n = c.in_ok-node.node in
    let made : IsWellMade c.in-Some.path.conj = search rules in
    let starts : start_at (judge_of s) c.args.start.now c.args.left c.args.right ≡ Some c.in-Some.path = sym c.in_ok-path.ensures ∙ c.in-Some.is in
    let opened = subst (λ (x : Opened). IsOpen n.embedding n.question x) c.in-On.is c.in_ok-question.ensures.open in
    let kept = subst (λ (x : Opened). KeepsPairPath n x) c.in-On.is c.in_ok-question.ensures.pair_path in
    IfErr-weaker c.visit.result _ _ (full_begun s c.args.start.now c.args.left c.args.right c.in-Some.path n c.in-On.node c.args.found_paths.now starts made c.in_ok-node.ensures.question c.in_ok-node.ensures.pair_path opened.0 kept) c.visit.ensures.full

-- ---- where no further path is found

pub returns-in-Empty-clause-stands : goal.returns-in-Empty-clause-stands
returns-in-Empty-clause-stands c = λ none.
    let s = c.args.search.now in
    let n = c.in_ok-node.node in
    let starts : start_at (judge_of s) c.args.start.now c.args.left c.args.right ≡ Some c.in-Some.path = sym c.in_ok-path.ensures ∙ c.in-Some.is in
    let made : IsWellMade c.in-Some.path.conj = search rules in
    begun_empty s c.args.start.now c.args.left c.args.right c.in-Some.path n.question starts made c.in_ok-node.ensures.question (subst (λ (x : Opened). IsEmptyOpen n.question.conj x) c.in-Empty.is c.in_ok-question.ensures.none)

pub returns-in-On-clause-stands : goal.returns-in-On-clause-stands
returns-in-On-clause-stands c =
    let s = c.args.search.now in
    let n = c.in_ok-node.node in
    let starts : start_at (judge_of s) c.args.start.now c.args.left c.args.right ≡ Some c.in-Some.path = sym c.in_ok-path.ensures ∙ c.in-Some.is in
    let opened = subst (λ (x : Opened). IsOpen n.embedding n.question x) c.in-On.is c.in_ok-question.ensures.open in
    let made : IsWellMade c.in-Some.path.conj = search rules in
    none_by c.visit.result s c.args.found_paths.now c.visit.new.found_paths _ _ (begun_stands s c.args.start.now c.args.left c.args.right c.in-Some.path c.in-On.node.question starts made (opened.0 ∙ c.in_ok-node.ensures.question)) c.visit.ensures.stands
