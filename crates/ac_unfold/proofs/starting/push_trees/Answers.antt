use Rattle.std.proofs.Common.{◌≡◌, ℕ, List, refl, sym, subst, arith}
use Rattle.ac_claims.specs.declared.types.ClaimTree.{ClaimTree}
use Rattle.ac_unfold.specs.PiecePlans.{AreBegun, IsBegun}
use Rattle.ac_unfold.specs.EndResults.{nothing_found, FullUnder}
use Rattle.ac_unfold.specs.UnfoldPaths.{ArePlansOf}
use Rattle.ac_unfold.specs.BrokenPathResults.{IsFrom}
use Rattle.ac_unfold.proofs.Coming.{broken_none, broken_then, first_broken}
use Rattle.ac_unfold.proofs.Full.{full_after}
use Rattle.ac_unfold.proofs.PathSteps.{plans_more}
use Rattle.ac_unfold.proofs.Results.{at_some}
use Rattle.ac_unfold.proofs.Starts.{begun_more, rights_more, rights_none, Rights}
use Rattle.ac_unfold.proofs.Stopped.{if_err}
use Rattle.ac_unfold.proofs.starting.push_trees.Goals as goal

pub loop-right-init : goal.loop-right-init
loop-right-init c = record { adds = broken_none c.args.search.now (IsFrom c.args.start.now) nothing_found _ c.new-found_paths.ensures; claim = c.requires.claim; rights = rights_none c.args.left c.args.trees.now.items; begun = λ h. h }

pub loop-right-preserved : goal.loop-right-preserved
loop-right-preserved c =
    let s = c.args.search.now in
    let start = c.args.start.now in
    let old = c.loop-right.trees.items in
    let t : ClaimTree = record { claim = c.args.number; left_piece = c.args.left; right_piece = c.loop-right.right; tree = c.in-Some.tree } in
    let b : IsBegun s start c.args.left c.loop-right.right c.in-Some.tree = at_some c.in_ok-tree.field-0 c.in-Some.tree (IsBegun s start c.args.left c.loop-right.right) c.in-Some.is c.in_ok-tree.ensures.begun in
    record {
      adds = broken_then s (IsFrom start) nothing_found _ _ c.loop-right.invariant.adds c.in_ok-tree.ensures.broken;
      claim = subst (λ (xs : List ClaimTree). ArePlansOf c.args.number xs) (sym c.in_ok-push.ensures.items) (plans_more c.args.number old t c.loop-right.invariant.claim refl);
      rights = rights_more c.args.left c.loop-right.right c.args.trees.now.items old c.push.new.self.items t c.loop-right.invariant.rights c.in_ok-push.ensures.items refl refl;
      begun = λ h. subst (λ (xs : List ClaimTree). AreBegun s start xs) (sym c.in_ok-push.ensures.items) (begun_more s start old t (c.loop-right.invariant.begun h) b);
    }

pub returns-clause-pieces : goal.returns-clause-pieces
returns-clause-pieces c =
    let e : c.loop-right.right ≡ c.args.rights = omega arith in
    let r = subst (λ (n : ℕ). Rights c.args.left n c.args.trees.now.items c.loop-right.trees.items) e c.loop-right.invariant.rights in
    λ all. r.are

pub returns-clause-accepted : goal.returns-clause-accepted
returns-clause-accepted c = λ all. c.loop-right.invariant.begun

-- ---- a path that is broken

pub into_first-requires : goal.into_first-requires
into_first-requires c =
    let more = c.in_ok-tree.ensures.missing c.requires.making c.in_default.is in
    omega (arith, more)

pub returns-in_default-clause-broken : goal.returns-in_default-clause-broken
returns-in_default-clause-broken c =
    let s = c.args.search.now in
    let start = c.args.start.now in
    first_broken s start c.unfold_at.new.found_paths c.into_first.result (broken_then s (IsFrom start) nothing_found _ _ c.loop-right.invariant.adds c.in_ok-tree.ensures.broken) c.into_first.ensures

-- ---- too many paths

pub returns-in_err-tree-clause-full : goal.returns-in_err-tree-clause-full
returns-in_err-tree-clause-full c =
    let s = c.args.search.now in
    let start = c.args.start.now in
    let stop = c.in_err-tree.field-0.0 in
    if_err (FullUnder s (IsFrom start) nothing_found) c.from_residual.result stop c.from_residual.ensures.1
    (full_after s (IsFrom start) nothing_found c.loop-right.found_paths stop c.loop-right.invariant.adds c.in_err-tree.ensures.full)
