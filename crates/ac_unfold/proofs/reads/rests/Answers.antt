use Rattle.std.proofs.Common.{◌≡◌, ◌+◌, ◌++◌, ◌∷◌, [], List, None, take, sym, subst}
use Rattle.std.proofs.lemmas.List.{take_all}
use Rattle.ac_forms.specs.ListMembers.{IsAmong}
use Rattle.ac_flow.specs.declared.types.Remainder.{Remainder}
use Rattle.ac_widen_programs.specs.PairPathSteps.{at_rest}
use Rattle.ac_unfold.specs.EndResults.{IsNeverFull}
use Rattle.ac_unfold.specs.PlanResults.{judge_of}
use Rattle.ac_unfold.specs.UnfoldStops.{FollowsCase, StopsUnder}
use Rattle.ac_unfold.specs.UnfoldTasks.{AreRests}
use Rattle.ac_unfold.proofs.PairTasks.{handed_never}
use Rattle.ac_unfold.proofs.Places.{rest_stops}
use Rattle.ac_unfold.proofs.ReadTasks.{rests_more, rests_none}
use Rattle.ac_unfold.proofs.Results.{in_read, next_item}
use Rattle.ac_unfold.proofs.Stopped.{if_err}
use Rattle.ac_unfold.proofs.reads.rests.Goals as goal

pub loop-rest-init : goal.loop-rest-init
loop-rest-init c = subst (AreRests c.args.search.now c.args.node.now []) (sym c.new-made.ensures.items) (rests_none c.args.search.now c.args.node.now)

pub loop-rest-preserved : goal.loop-rest-preserved
loop-rest-preserved c =
    let s = c.args.search.now in
    let n = c.args.node.now in
    let k = c.args.case.now in
    let r = c.rest-item.result in
    let i = c.loop-rest.rest-index in
    let more : take (i + 1) k.pieces ≡ take i k.pieces ++ r ∷ [] = subst (λ (xs : List Remainder). take (i + 1) xs ≡ take i xs ++ r ∷ []) c.as_slice-rest-items.ensures (next_item c.as_slice-rest-items.result.now i r c.loop-rest-test.true c.rest-item.is) in
    subst (AreRests s n (take (i + 1) k.pieces)) (sym c.in_ok-push.ensures.items) (rests_more s n c.in_ok-left.left (take i k.pieces) (take (i + 1) k.pieces) c.loop-rest.made.items r c.loop-rest.invariant more c.in_ok-left.ensures.question c.in_ok-left.ensures.pair_path)

pub returns-clause-rests : goal.returns-clause-rests
returns-clause-rests c =
    let k = c.args.case.now in
    let i = c.loop-rest.rest-index in
    let all : take i k.pieces ≡ k.pieces = subst (λ (xs : List Remainder). take i xs ≡ xs) c.as_slice-rest-items.ensures (take_all i c.as_slice-rest-items.result.now c.loop-rest-test.false) in
    subst (λ (xs : List Remainder). AreRests c.args.search.now c.args.node.now xs c.loop-rest.made.items) all c.loop-rest.invariant

pub returns-in_err-left-clause-causes : goal.returns-in_err-left-clause-causes
returns-in_err-left-clause-causes c =
    let s = c.args.search.now in
    let k = c.args.case.now in
    let q = c.args.node.now.question in
    let r = c.rest-item.result in
    let among : IsAmong r k.pieces = subst (λ (xs : List Remainder). IsAmong r xs) c.as_slice-rest-items.ensures (in_read c.as_slice-rest-items.result.now c.loop-rest.rest-index r c.loop-rest-test.true c.rest-item.is) in
    let stop = c.in_err-left.field-0.0 in
    if_err (StopsUnder s (FollowsCase s k c.args.node.now.pair_path q)) c.from_residual.result stop c.from_residual.ensures.1 (rest_stops s k c.args.node.now.pair_path q r stop among c.in_err-left.ensures.causes)

pub returns-in_err-left-clause-never : goal.returns-in_err-left-clause-never
returns-in_err-left-clause-never c =
    let q = c.args.node.now.question in
    let stop = c.in_err-left.field-0.0 in
    if_err IsNeverFull c.from_residual.result stop c.from_residual.ensures.1 (handed_never q.conj (at_rest (judge_of c.args.search.now).params q c.rest-item.result.conj ≡ None) stop c.in_err-left.ensures.causes)
