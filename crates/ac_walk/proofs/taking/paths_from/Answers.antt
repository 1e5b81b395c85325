use Rattle.std.proofs.Common.{◌∙◌, List, sym, subst}
use Rattle.std.specs.Prelude.{IfErr, IfOk}
use Rattle.std.specs.List.{AllByRecursion}
use Rattle.ac_claims.specs.declared.types.Claim.{Claim}
use Rattle.ac_widen_programs.specs.PairPaths.{Unfolding}
use Rattle.ac_unfold.specs.UnfoldCauses.{StopsUnfolding}
use Rattle.ac_unfold.specs.Unfoldings.{IsUnfoldingOf}
use Rattle.ac_walk.specs.StartPaths.{IsPathFound}
use Rattle.ac_walk_state.proofs.LastItems.{both_ok}
use Rattle.ac_walk.proofs.SameClaims.{paths_found}
use Rattle.ac_walk.proofs.taking.paths_from.Goals as goal

pub returns-then-search-clause-broken : goal.returns-then-search-clause-broken
returns-then-search-clause-broken c =
    let s = c.args.search.now in
    let same = c.in_ok-claims.ensures ∙ sym c.requires in
    subst (λ (cs : List Claim). IfOk c.tabled_path.result (λ paths. (u : Unfolding) → IsUnfoldingOf s.program_flows.now c.args.start.now c.args.order.now u → AllByRecursion (IsPathFound s.program_flows.now u cs) paths)) same c.tabled_path.ensures.broken

pub returns-then-search-clause-causes : goal.returns-then-search-clause-causes
returns-then-search-clause-causes c =
    let same = c.in_ok-claims.ensures ∙ sym c.requires in
    subst (λ (cs : List Claim). IfErr c.tabled_path.result (StopsUnfolding c.args.search.now.program_flows.now c.args.start.now cs c.args.order.now)) same c.tabled_path.ensures.causes

pub returns-clause-broken : goal.returns-clause-broken
returns-clause-broken c =
    let s = c.args.search.now in
    both_ok _ _ (λ paths. (u : Unfolding) → IsUnfoldingOf s.program_flows.now c.args.start.now c.args.order.now u → AllByRecursion (IsPathFound s.program_flows.now u c.args.claims.now) paths) c.broken_paths.result
    (λ paths h f u of. paths_found s.program_flows.now u c.args.claims.now paths (h u of) (f u of)) c.broken_paths.ensures.broken c.broken_paths.ensures.found
