use Rattle.std.proofs.Common.{List, sym, subst}
use Rattle.std.specs.List.{Contains}
use Rattle.ac_forms.specs.declared.row.Row.{Row}
use Rattle.ac_flow.specs.Cuts.{AllHavePoints, NoneMeet}
use Rattle.ac_flow.specs.CutStops.{AreCutCases}
use Rattle.ac_flow.proofs.Remains.{by_step_as, kills-at}
use Rattle.ac_flow.proofs.case.cut_by_pieces.Goals as goal

pub returns-in-Err-clause-stops : goal.returns-in-Err-clause-stops
returns-in-Err-clause-stops c = λ case kills a h b.
    c.in-Err.ensures.stops case kills (subst (AreCutCases case kills) (sym c.as_slice.ensures) (c.loop-piece.invariant.asked case kills a b)) (subst AllHavePoints (sym c.as_slice.ensures) (c.loop-piece.invariant.by.each h))
    (subst (λ (rows : List Row). Contains kills rows) (sym c.as_slice-in-loop-piece.ensures) (kills-at kills c.args.found.now c.loop-piece.piece-index c.piece-item.result b c.loop-piece-test.true c.piece-item.is))

pub loop-piece-preserved : goal.loop-piece-preserved
loop-piece-preserved c =
    by_step_as c.args.columns c.args.room c.args.kept.now c.args.found.now c.loop-piece.kept c.cut_all-done.new.kept c.as_slice.result.now c.as_slice-in-loop-piece.result.now c.loop-piece.piece-index c.piece-item.result
    c.loop-piece.invariant c.loop-piece-test.true c.piece-item.is c.as_slice.ensures c.as_slice-in-loop-piece.ensures c.in-Ok.ensures.made c.in-Ok.ensures.left c.in-Ok.ensures.asked c.in-Ok.ensures.apart c.in-Ok.ensures.within

pub returns-in-Err-clause-full : goal.returns-in-Err-clause-full
returns-in-Err-clause-full c = λ a. c.in-Err.ensures.full (subst (NoneMeet c.args.columns) (sym c.as_slice.ensures) (c.loop-piece.invariant.apart a))

pub returns-clause-apart : goal.returns-clause-apart
returns-clause-apart c = c.loop-piece.invariant.apart

pub returns-in-Err-clause-filled : goal.returns-in-Err-clause-filled
returns-in-Err-clause-filled c = λ case kills a b.
    c.in-Err.ensures.filled case kills (subst (AreCutCases case kills) (sym c.as_slice.ensures) (c.loop-piece.invariant.asked case kills a b))
    (subst (λ (rows : List Row). Contains kills rows) (sym c.as_slice-in-loop-piece.ensures) (kills-at kills c.args.found.now c.loop-piece.piece-index c.piece-item.result b c.loop-piece-test.true c.piece-item.is))

pub returns-clause-within : goal.returns-clause-within
returns-clause-within c = c.loop-piece.invariant.within
