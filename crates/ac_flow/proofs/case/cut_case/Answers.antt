use Rattle.std.proofs.Common.{sym, subst}
use Rattle.ac_flow.specs.CaseRemainder.{AreKillsOf}
use Rattle.ac_flow.proofs.Remains.{cut_start, cut_step, cut_end, kills-of-at}
use Rattle.ac_flow.proofs.case.cut_case.Goals as goal

pub returns-in-Err-cut_by_pieces-clause-stops : goal.returns-in-Err-cut_by_pieces-clause-stops
returns-in-Err-cut_by_pieces-clause-stops c = λ rows a.
    c.in-Err-cut_by_pieces.ensures.stops c.args.case.now rows (c.loop-found.invariant.asked rows a) c.loop-found.invariant.each
    (subst (AreKillsOf rows) (sym c.as_slice.ensures) (kills-of-at rows c.args.kills.now c.loop-found.found-index c.found-item.result a c.loop-found-test.true c.found-item.is))

pub loop-found-preserved : goal.loop-found-preserved
loop-found-preserved c =
    cut_step c.args.case.now c.args.kills.now c.args.room c.loop-found.pieces c.cut_by_pieces.new.kept c.loop-found.found-index c.found-item.result c.as_slice.result.now c.loop-found.invariant c.loop-found-test.true c.found-item.is c.as_slice.ensures
    c.in-Ok-cut_by_pieces.ensures.left c.in-Ok-cut_by_pieces.ensures.asked c.in-Ok-cut_by_pieces.ensures.apart c.in-Ok-cut_by_pieces.ensures.within

pub returns-clause-cut : goal.returns-clause-cut
returns-clause-cut c = cut_end c.args.case.now c.args.kills.now c.args.room c.loop-found.pieces c.loop-found.found-index c.loop-found.invariant c.loop-found-test.false

pub returns-in-Err-cut_by_pieces-clause-filled : goal.returns-in-Err-cut_by_pieces-clause-filled
returns-in-Err-cut_by_pieces-clause-filled c = λ rows a.
    c.in-Err-cut_by_pieces.ensures.filled c.args.case.now rows (c.loop-found.invariant.asked rows a)
    (subst (AreKillsOf rows) (sym c.as_slice.ensures) (kills-of-at rows c.args.kills.now c.loop-found.found-index c.found-item.result a c.loop-found-test.true c.found-item.is))

pub returns-in-Err-clause-stops : goal.returns-in-Err-clause-stops
returns-in-Err-clause-stops c = λ rows a. c.in-Err.ensures.stops rows

pub loop-found-init : goal.loop-found-init
loop-found-init c = cut_start c.args.case.now c.args.kills.now c.args.room c.start.new.pieces c.in-Ok.ensures.start c.in-Ok.ensures.within

pub returns-in-Err-clause-filled : goal.returns-in-Err-clause-filled
returns-in-Err-clause-filled c = λ rows a. c.in-Err.ensures.filled rows

pub returns-clause-within : goal.returns-clause-within
returns-clause-within c = c.loop-found.invariant.within
