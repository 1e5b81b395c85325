use Rattle.std.proofs.Common.{arith, refl}
use Rattle.ac_unfold.specs.EndResults.{FullUnder}
use Rattle.ac_unfold.specs.BrokenPathResults.{IsFrom}
use Rattle.ac_unfold.proofs.Coming.{broken_kept, broken_none, broken_then}
use Rattle.ac_unfold.proofs.Full.{full_after}
use Rattle.ac_unfold.proofs.Stopped.{if_err}
use Rattle.ac_unfold.proofs.Unbroken.{rights_all, rights_more, rights_none}
use Rattle.ac_unfold.proofs.starting.find_beside.Goals as goal

pub loop-right-init : goal.loop-right-init
loop-right-init c = record { adds = broken_none c.args.search.now (IsFrom c.args.start.now) _ _ refl; stand = rights_none c.args.search.now c.args.start.now c.args.left _ _ }

pub loop-right-preserved : goal.loop-right-preserved
loop-right-preserved c =
    let s = c.args.search.now in
    let start = c.args.start.now in
    let kept = broken_kept s (IsFrom start) _ _ c.loop-right.invariant.adds in
    record {
      adds = broken_then s (IsFrom start) _ _ _ c.loop-right.invariant.adds c.in_ok-_none.ensures.broken;
      stand = rights_more s start c.args.left c.loop-right.right _ _ _ kept (broken_kept s (IsFrom start) _ _ c.in_ok-_none.ensures.broken) c.loop-right.invariant.stand c.in_ok-_none.ensures.stands;
    }

pub returns-clause-stands : goal.returns-clause-stands
returns-clause-stands c = rights_all c.args.search.now c.args.start.now c.args.left c.loop-right.right c.args.rights _ _ (omega arith) c.loop-right.invariant.stand

-- ---- too many paths

pub returns-in_err-_none-clause-full : goal.returns-in_err-_none-clause-full
returns-in_err-_none-clause-full c =
    let s = c.args.search.now in
    let start = c.args.start.now in
    let stop = c.in_err-_none.field-0.0 in
    if_err (FullUnder s (IsFrom start) c.args.found_paths.now) c.from_residual.result stop c.from_residual.ensures.1
    (full_after s (IsFrom start) c.args.found_paths.now c.loop-right.found_paths stop c.loop-right.invariant.adds c.in_err-_none.ensures.full)
