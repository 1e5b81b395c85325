use Rattle.ac_flow.proofs.Asked.{full_map, case-at, one-stops}
use Rattle.ac_flow.proofs.CutLoops.{point-at, all_step, all_full}
use Rattle.ac_flow.proofs.cut.cut_each.Goals as goal

pub returns-in-Err-clause-stops : goal.returns-in-Err-clause-stops
returns-in-Err-clause-stops c = λ case kills k h f.
    one-stops c.args.budget case kills c.conj-item.result c.args.kill.now c.in-Err.stop (case-at case kills c.args.pieces.now c.loop-conj.conj-index c.conj-item.result k c.loop-conj-test.true c.conj-item.is)
    (point-at c.args.pieces.now c.loop-conj.conj-index c.conj-item.result h c.loop-conj-test.true c.conj-item.is) f c.in-Err.ensures.stops

pub returns-in-Err-clause-have : goal.returns-in-Err-clause-have
returns-in-Err-clause-have c = λ a b. c.cut.ensures.have (point-at c.args.pieces.now c.loop-conj.conj-index c.conj-item.result a c.loop-conj-test.true c.conj-item.is) (c.loop-conj.invariant.have a b)

pub returns-clause-have : goal.returns-clause-have
returns-clause-have c = c.loop-conj.invariant.have

pub loop-conj-preserved : goal.loop-conj-preserved
loop-conj-preserved c =
    all_step c.args.pieces.now c.args.kill.now c.args.room c.args.kept.now c.loop-conj.kept c.cut.new.kept c.loop-conj.conj-index c.conj-item.result c.loop-conj.invariant c.loop-conj-test.true c.conj-item.is c.in-Ok.ensures.kept c.cut.ensures.have c.in-Ok.ensures.within

pub returns-in-Err-clause-full : goal.returns-in-Err-clause-full
returns-in-Err-clause-full c =
    full_map c.in-Err.stop _ _ (λ k. (k.0, all_full c.args.pieces.now c.args.kill.now c.args.room c.args.kept.now c.loop-conj.kept c.cut.new.kept c.loop-conj.conj-index c.conj-item.result c.loop-conj.invariant c.loop-conj-test.true c.conj-item.is k.1)) c.in-Err.ensures.full

pub returns-in-Err-clause-one_more : goal.returns-in-Err-clause-one_more
returns-in-Err-clause-one_more c = λ l. c.in-Err.ensures.one_more (c.loop-conj.invariant.within l)

pub returns-clause-within : goal.returns-clause-within
returns-clause-within c = c.loop-conj.invariant.within
