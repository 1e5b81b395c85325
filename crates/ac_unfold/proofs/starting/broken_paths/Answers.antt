use Rattle.std.proofs.Common.{◌≡◌, ◌∙◌, ℕ, List, ap, arith, subst, sym}
use Rattle.std.specs.List.{AllByRecursion}
use Rattle.ac_widen.specs.declared.derivation.Entry.{Entry}
use Rattle.ac_widen_programs.specs.BrokenPaths.{IsBroken}
use Rattle.ac_unfold.specs.UnfoldCauses.{StopsUnfolding}
use Rattle.ac_unfold.specs.EndResults.{nothing_found}
use Rattle.ac_unfold.specs.FoundPaths.{IsFoundAt}
use Rattle.ac_unfold.specs.BrokenPathResults.{IsFrom}
use Rattle.ac_unfold.proofs.Coming.{broken_kept, broken_none, broken_then, paths_broken, paths_found}
use Rattle.ac_unfold.proofs.Full.{full_after, stops_unfolding}
use Rattle.ac_unfold.proofs.Places.{memory_stops}
use Rattle.ac_unfold.proofs.Stopped.{if_err}
use Rattle.ac_unfold.proofs.Unbroken.{lefts_more, lefts_none, start_stands, LeftsStand}
use Rattle.ac_unfold.proofs.starting.broken_paths.Goals as goal

pub loop-left-init : goal.loop-left-init
loop-left-init c = record { adds = broken_none c.search_of-search.result (IsFrom c.args.start.now) _ _ c.new-found_paths.ensures; stand = lefts_none c.search_of-search.result c.args.start.now _ _ _ }

pub loop-left-preserved : goal.loop-left-preserved
loop-left-preserved c =
    let s = c.search_of-search.result in
    let start = c.args.start.now in
    let kept = broken_kept s (IsFrom start) _ _ c.loop-left.invariant.adds in
    record {
      adds = broken_then s (IsFrom start) _ _ _ c.loop-left.invariant.adds c.in_ok-find_beside.ensures.broken;
      stand = lefts_more s start c.loop-left.left _ _ _ _ kept (broken_kept s (IsFrom start) _ _ c.in_ok-find_beside.ensures.broken) c.loop-left.invariant.stand c.in_ok-find_beside.ensures.stands;
    }

pub returns-clause-broken : goal.returns-clause-broken
returns-clause-broken c = λ u is.
    let s = c.search_of-search.result in
    let broken = paths_broken s c.args.program_flows.now c.args.start.now c.args.claims.now c.args.order.now c.loop-left.found_paths c.loop-left.invariant.adds c.search_of-search.ensures.program_flows c.search_of-search.ensures.claims c.search_of-search.ensures.order u is in
    subst (λ (xs : List (List Entry)). AllByRecursion (IsBroken u c.args.claims.now) xs) (sym c.into_paths.ensures.same) broken

pub returns-clause-found : goal.returns-clause-found
returns-clause-found c = λ u is.
    let s = c.search_of-search.result in
    let flows = c.args.program_flows.now in
    let found = paths_found s flows c.args.start.now c.args.claims.now c.args.order.now c.loop-left.found_paths c.loop-left.invariant.adds c.search_of-search.ensures.program_flows c.search_of-search.ensures.claims c.search_of-search.ensures.order u is in
    subst (λ (xs : List (List Entry)). AllByRecursion (IsFoundAt u flows.left_flow.now flows.right_flow.now c.args.claims.now) xs) (sym c.into_paths.ensures.same) found

-- ---- why it stops

pub returns-in_err-lefts-clause-causes : goal.returns-in_err-lefts-clause-causes
returns-in_err-lefts-clause-causes c = memory_stops c.from_residual.result c.in_err-lefts.field-0.0 c.args.program_flows.now c.args.start.now c.args.claims.now c.args.order.now c.from_residual.ensures.1

pub returns-in_err-find_beside-clause-causes : goal.returns-in_err-find_beside-clause-causes
returns-in_err-find_beside-clause-causes c =
    let s = c.search_of-search.result in
    let program_flows = c.args.program_flows.now in
    let start = c.args.start.now in
    let claims = c.args.claims.now in
    let order = c.args.order.now in
    let stop = c.in_err-find_beside.field-0.0 in
    if_err (StopsUnfolding program_flows start claims order) c.from_residual-in_err-find_beside.result stop c.from_residual-in_err-find_beside.ensures.1
    (stops_unfolding s program_flows start claims order stop c.search_of-search.ensures.program_flows c.search_of-search.ensures.claims c.search_of-search.ensures.order c.search_of-search.ensures.budget c.in_err-find_beside.ensures.causes
    (full_after s (IsFrom start) nothing_found c.loop-left.found_paths stop c.loop-left.invariant.adds c.in_err-find_beside.ensures.full))

-- ---- where no path is found

pub returns-clause-stands : goal.returns-clause-stands
returns-clause-stands c = λ none.
    let s = c.search_of-search.result in
    let start = c.args.start.now in
    let counts = c.in_ok-lefts.ensures.counts in
    let e : c.loop-left.left ≡ c.in_ok-lefts.lefts = omega arith in
    let all = subst (λ (n : ℕ). LeftsStand s start n c.in_ok-lefts.rights nothing_found c.loop-left.found_paths) e c.loop-left.invariant.stand in
    start_stands s c.args.program_flows.now start c.args.claims.now c.args.order.now c.in_ok-lefts.lefts c.in_ok-lefts.rights c.loop-left.found_paths c.search_of-search.ensures.program_flows c.search_of-search.ensures.claims c.search_of-search.ensures.order c.search_of-search.ensures.making
    c.in_ok-lefts.ensures.domains (ap (λ (x : ℕ × ℕ). x.0) counts) (ap (λ (x : ℕ × ℕ). x.1) counts) (sym c.into_paths.ensures.same ∙ none) all
