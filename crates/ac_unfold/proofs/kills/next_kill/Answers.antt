use Rattle.std.proofs.Common.{◌≡◌, None, refl, subst}
use Rattle.ac_unfold.specs.EndResults.{IsNeverFull}
use Rattle.ac_unfold.specs.KillTraversal.{AreApart}
use Rattle.ac_unfold.specs.PlanResults.{judge_of}
use Rattle.ac_unfold.specs.UnfoldQuestions.{kill_on}
use Rattle.ac_unfold.specs.UnfoldStops.{FollowsCut, StopsUnder}
use Rattle.ac_unfold.proofs.KillTasks.{kill_cut, kill_passed}
use Rattle.ac_unfold.proofs.PairTasks.{handed_never}
use Rattle.ac_unfold.proofs.Passing.{apart_misses, kill_rows}
use Rattle.ac_unfold.proofs.Places.{kill_stops}
use Rattle.ac_unfold.proofs.Results.{get_below, in_get}
use Rattle.ac_unfold.proofs.Stopped.{if_err}
use Rattle.ac_unfold.proofs.kills.next_kill.Goals as goal

pub returns-then-apart-clause-moves : goal.returns-then-apart-clause-moves
returns-then-apart-clause-moves c =
    let s = c.args.search.now in
    let k = c.args.case.now in
    let n = c.args.node in
    let rows = c.in_ok-rows.rows in
    let are = kill_rows s k c.args.number n.question c.args.kill.now rows c.requires.kill c.in_ok-rows.ensures.rows in
    let apart = subst (AreApart n.question.conj) c.as_slice.ensures (c.in_ok-apart.ensures c.if-apart.true) in
    kill_passed s n c.args.case c.args.number c.number_behind.result c.in_ok-more.more.items c.in_ok-more.ensures c.requires.assumes c.number_behind.ensures (apart_misses s k c.args.number n.question rows are apart)

pub kill_rows-requires : goal.kill_rows-requires
kill_rows-requires c = c.requires.assumes

pub number_behind-requires : goal.number_behind-requires
number_behind-requires c = get_below c.args.case.now.kills c.args.number c.args.kill.now c.requires.kill

pub returns-clause-moves : goal.returns-clause-moves
returns-clause-moves c =
    let s = c.args.search.now in
    let k = c.args.case.now in
    let n = c.args.node in
    let rows = c.in_ok-rows.rows in
    let among = in_get k.kills c.args.number c.args.kill.now c.requires.kill in
    kill_cut s _ c.in_ok-more-2.more.items c.in_ok-more-2.ensures refl (record {
      numbered = kill_rows s k c.args.number n.question c.args.kill.now rows c.requires.kill c.in_ok-rows.ensures.rows;
      there = record { kill = c.args.kill.now; is = c.requires.kill; are = c.in_ok-rows.ensures.there };
      kill_there = record { whole = c.args.kill.now; among = among; is = refl; moved = c.in_ok-rows.ensures.rows };
      stand = tt;
    })

pub returns-in_err-rows-clause-causes : goal.returns-in_err-rows-clause-causes
returns-in_err-rows-clause-causes c =
    let s = c.args.search.now in
    let k = c.args.case.now in
    let q = c.args.node.question in
    let stop = c.in_err-rows.field-0.0 in
    if_err (StopsUnder s (FollowsCut s k c.args.number 0 c.args.node.pair_path q)) c.from_residual.result stop c.from_residual.ensures.1 (kill_stops s k c.args.number 0 c.args.node.pair_path q c.args.kill.now stop c.requires.kill c.in_err-rows.ensures.causes)

pub returns-in_err-rows-clause-never : goal.returns-in_err-rows-clause-never
returns-in_err-rows-clause-never c =
    let q = c.args.node.question in
    let stop = c.in_err-rows.field-0.0 in
    if_err IsNeverFull c.from_residual.result stop c.from_residual.ensures.1 (handed_never q.conj (kill_on (judge_of c.args.search.now).params q c.args.kill.now.0 ≡ None) stop c.in_err-rows.ensures.causes)
