use Rattle.std.proofs.Common.{◌≡◌, ℕ, List, sym, ap, ◌∙◌, subst, arith}
use Rattle.ac_claims.specs.ProofFaults.{domain}
use Rattle.ac_claims.specs.RemainingPlans.{count_by}
use Rattle.ac_claims.specs.declared.types.ClaimTree.{ClaimTree}
use Rattle.ac_unfold.specs.UnfoldCauses.{StopsUnfolding}
use Rattle.ac_unfold.specs.UnfoldPaths.{ArePlansOf}
use Rattle.ac_claims_plans.specs.DuePlans.{pairs_of}
use Rattle.ac_unfold.specs.StartResults.{IsBrokenFrom}
use Rattle.ac_unfold.proofs.Coming.{path_is_broken, path_is_found}
use Rattle.ac_unfold.proofs.Full.{stops_unfolding}
use Rattle.ac_unfold.proofs.Places.{memory_stops}
use Rattle.ac_unfold.proofs.Results.{at_some}
use Rattle.ac_unfold.proofs.Starts.{accepted_by, begun_none, used_by_tabled, lefts_more, lefts_none, stopped_by}
use Rattle.ac_unfold.proofs.Stopped.{if_err}
use Rattle.ac_unfold.proofs.starting.claim_trees.Goals as goal

pub loop-left-init : goal.loop-left-init
loop-left-init c = record {
  claim = subst (λ (xs : List ClaimTree). ArePlansOf c.args.number xs) (sym c.new-trees.ensures.items) tt;
  lefts = lefts_none c.in_ok-counts.counts.1 c.new-trees.result.items c.new-trees.ensures.items;
  begun = begun_none c.search_of-search.result c.args.start.now c.new-trees.result.items c.new-trees.ensures.items;
}

pub loop-left-preserved : goal.loop-left-preserved
loop-left-preserved c = record {
  claim = c.in_ok-broken.ensures.claim;
  lefts = lefts_more c.in_ok-counts.counts.1 c.loop-left.left c.loop-left.trees.items c.push_trees.new.trees.items c.loop-left.invariant.lefts (c.in_ok-broken.ensures.pieces c.in_default.is);
  begun = c.in_ok-broken.ensures.accepted c.in_default.is c.loop-left.invariant.begun;
}

pub returns-clause-pieces : goal.returns-clause-pieces
returns-clause-pieces c =
    let s = c.args.program_flows.now in
    let lefts = count_by (domain s.programs.left.now c.args.start.now.left) in
    let rights = count_by (domain s.programs.right.now c.args.start.now.right) in
    let e : c.loop-left.left ≡ c.in_ok-counts.counts.0 = omega arith in
    let f : c.in_ok-counts.counts.0 ≡ lefts = ap (λ (p : ℕ × ℕ). p.0) c.in_ok-counts.ensures.counts in
    let g : c.in_ok-counts.counts.1 ≡ rights = ap (λ (p : ℕ × ℕ). p.1) c.in_ok-counts.ensures.counts in
    c.loop-left.invariant.lefts.are ∙ ap (λ (n : ℕ). pairs_of n c.in_ok-counts.counts.1) (e ∙ f) ∙ ap (λ (n : ℕ). pairs_of lefts n) g

pub returns-clause-accepted : goal.returns-clause-accepted
returns-clause-accepted c = λ settled cs numbered behind.
    accepted_by c.search_of-search.result c.args.program_flows.now c.args.claims.now.base c.args.claims.now.claims.now c.args.claims.now.tabled.now c.args.start.now c.loop-left.trees.items c.search_of-search.ensures.program_flows c.search_of-search.ensures.base c.search_of-search.ensures.claims
    c.search_of-search.ensures.tabled c.search_of-search.ensures.making c.loop-left.invariant.begun settled cs numbered behind

pub returns-in-Some-clause-broken : goal.returns-in-Some-clause-broken
returns-in-Some-clause-broken c =
    let s = c.search_of-search.result in
    let path = at_some c.in_ok-broken.broken c.in-Some.path (IsBrokenFrom s c.args.start.now) c.in-Some.is c.in_ok-broken.ensures.broken in
    path_is_broken s c.args.program_flows.now c.args.start.now c.args.claims.now.claims.now c.args.order.now c.in-Some.path path c.search_of-search.ensures.program_flows c.search_of-search.ensures.claims c.search_of-search.ensures.order

pub returns-in-Some-clause-found : goal.returns-in-Some-clause-found
returns-in-Some-clause-found c =
    let s = c.search_of-search.result in
    let path = at_some c.in_ok-broken.broken c.in-Some.path (IsBrokenFrom s c.args.start.now) c.in-Some.is c.in_ok-broken.ensures.broken in
    path_is_found s c.args.program_flows.now c.args.start.now c.args.claims.now.claims.now c.args.order.now c.in-Some.path path c.search_of-search.ensures.program_flows c.search_of-search.ensures.claims c.search_of-search.ensures.order

pub returns-clause-stops : goal.returns-clause-stops
returns-clause-stops c = λ g at.
    stopped_by c.search_of-search.result c.args.program_flows.now c.args.order.now c.args.claims.now.base c.args.claims.now.claims.now c.args.claims.now.tabled.now c.args.start.now c.loop-left.trees.items c.search_of-search.ensures.program_flows c.search_of-search.ensures.order c.search_of-search.ensures.base
    c.search_of-search.ensures.claims c.search_of-search.ensures.tabled c.search_of-search.ensures.making c.loop-left.invariant.begun g at

pub returns-clause-uses_tabled : goal.returns-clause-uses_tabled
returns-clause-uses_tabled c = λ settled moduli.
    used_by_tabled c.search_of-search.result c.args.program_flows.now c.args.claims.now.tabled.now c.args.start.now c.loop-left.trees.items c.search_of-search.ensures.program_flows c.search_of-search.ensures.tabled c.search_of-search.ensures.making c.loop-left.invariant.begun settled moduli

-- ---- why it stops

pub returns-in_err-counts-clause-causes : goal.returns-in_err-counts-clause-causes
returns-in_err-counts-clause-causes c = memory_stops c.from_residual.result c.in_err-counts.field-0.0 c.args.program_flows.now c.args.start.now c.args.claims.now.claims.now c.args.order.now c.from_residual.ensures.1

pub returns-in_err-broken-clause-causes : goal.returns-in_err-broken-clause-causes
returns-in_err-broken-clause-causes c =
    let s = c.search_of-search.result in
    let program_flows = c.args.program_flows.now in
    let start = c.args.start.now in
    let claims = c.args.claims.now.claims.now in
    let order = c.args.order.now in
    let stop = c.in_err-broken.field-0.0 in
    if_err (StopsUnfolding program_flows start claims order) c.from_residual-in_err-broken.result stop c.from_residual-in_err-broken.ensures.1
    (stops_unfolding s program_flows start claims order stop c.search_of-search.ensures.program_flows c.search_of-search.ensures.claims c.search_of-search.ensures.order c.search_of-search.ensures.budget c.in_err-broken.ensures.causes c.in_err-broken.ensures.full)
