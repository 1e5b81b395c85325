use Rattle.ac_flow.proofs.CutLoops.{outside_row, outside_step, outside_full, outside_stops}
use Rattle.ac_flow.proofs.Asked.{full_map, kept_have}
use Rattle.ac_flow.proofs.cut.keep_outside.Goals as goal

pub cut_by_row-requires-clause-row : goal.cut_by_row-requires-clause-row
cut_by_row-requires-clause-row c =
    outside_row c.args.conj.now c.args.kill.now c.args.room c.loop-row.here _ c.loop-row.kept c.loop-row.row-index c.row-item.result c.loop-row.invariant c.requires.kill c.loop-row-test.true c.row-item.is

pub returns-in-Err-clause-stops : goal.returns-in-Err-clause-stops
returns-in-Err-clause-stops c =
    outside_stops c.args.budget c.args.conj.now c.args.kill.now c.args.room c.loop-row.here c.args.kept.now c.loop-row.kept c.loop-row.row-index c.row-item.result c.in-Err.stop c.loop-row.invariant c.loop-row-test.true c.row-item.is c.in-Err.ensures.stops

pub returns-in-Err-clause-have : goal.returns-in-Err-clause-have
returns-in-Err-clause-have c = λ a. c.cut_by_row.ensures.have (kept_have _ _ _ c.loop-row.invariant.done a)

pub returns-clause-have : goal.returns-clause-have
returns-clause-have c = kept_have _ _ _ c.loop-row.invariant.done

pub returns-in-Err-clause-full : goal.returns-in-Err-clause-full
returns-in-Err-clause-full c =
    full_map c.in-Err.stop _ _ (λ k. (k.0, outside_full c.args.conj.now c.args.kill.now c.args.room c.loop-row.here c.args.kept.now c.loop-row.kept c.cut_by_row.new.kept c.loop-row.row-index c.row-item.result c.loop-row.invariant c.loop-row-test.true c.row-item.is k.1)) c.in-Err.ensures.full

pub returns-in-Err-clause-one_more : goal.returns-in-Err-clause-one_more
returns-in-Err-clause-one_more c = λ l. c.in-Err.ensures.one_more (c.loop-row.invariant.within l)

pub returns-clause-within : goal.returns-clause-within
returns-clause-within c = c.loop-row.invariant.within

pub loop-row-preserved : goal.loop-row-preserved
loop-row-preserved c =
    outside_step c.args.conj.now c.args.kill.now c.args.room c.loop-row.here c.cut_by_row.new.here c.args.kept.now c.loop-row.kept c.cut_by_row.new.kept c.loop-row.row-index c.row-item.result c.loop-row.invariant c.requires.kill
    c.loop-row-test.true c.row-item.is c.in-Ok.ensures.after c.in-Ok.ensures.kept c.in-Ok.ensures.within
