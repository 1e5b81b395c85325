use Rattle.std.proofs.Common.{◌-◌, ap, ◌∙◌}
use Rattle.ac_flow.proofs.CutSteps.{piece_over, stopped_at, piece_memory, filled_full, filled_groups, groups_end, parts_next}
use Rattle.ac_flow.proofs.cutting.cut_pieces.Goals as goal

pub cut_piece-requires-clause-piece : goal.cut_piece-requires-clause-piece
cut_piece-requires-clause-piece c = piece_over c.args.case.now.own.now.columns c.args.pieces.now c.loop-d.d c.index-pieces-d.result c.as_slice.result.now c.requires.pieces c.loop-d-test.true c.index-pieces-d.is c.as_slice.ensures

pub returns-in-Err-push_remainders-clause-stops : goal.returns-in-Err-push_remainders-clause-stops
returns-in-Err-push_remainders-clause-stops c = λ ks a. piece_memory c.args.budget c.args.m.now c.args.case.now.own.now.columns c.args.case.now.own.now.rows c.args.pieces.now ks c.loop-d.d c.index-pieces-d.result _ c.loop-d-test.true c.index-pieces-d.is

pub returns-in-Err-clause-stops : goal.returns-in-Err-clause-stops
returns-in-Err-clause-stops c = λ ks a.
    stopped_at c.args.budget c.args.m.now c.args.case.now.own.now.columns c.args.case.now.own.now.rows c.args.pieces.now ks c.loop-d.d c.index-pieces-d.result c.as_slice.result.now c.in-Err.stop c.stopped.result c.loop-d-test.true c.index-pieces-d.is c.as_slice.ensures
    (c.in-Err.ensures.stops ks a) c.stopped.ensures.same

pub returns-in-Err-clause-full : goal.returns-in-Err-clause-full
returns-in-Err-clause-full c =
    filled_full c.args.m.now c.args.case.now.own.now.columns c.args.case.now.own.now.rows c.args.case.now.kills.now c.args.room c.args.pieces.now c.loop-d.d c.saturating_sub-left.result c.loop-d.out c.cut_piece.new.kept c.in-Err.stop c.stopped.result c.loop-d.invariant c.in-Err.ensures.have
    (c.saturating_sub-left.ensures ∙ ap (λ n. c.args.room - n) c.len.ensures) c.in-Err.ensures.full c.stopped.ensures.same c.stopped.ensures.full

pub returns-in-Err-clause-filled : goal.returns-in-Err-clause-filled
returns-in-Err-clause-filled c = λ ks a.
    filled_groups c.args.m.now c.args.case.now.own.now.columns c.args.case.now.own.now.rows c.args.case.now.kills.now c.args.room c.args.pieces.now ks c.loop-d.d c.saturating_sub-left.result c.index-pieces-d.result c.as_slice.result.now c.loop-d.out c.cut_piece.new.kept c.in-Err.stop c.stopped.result c.loop-d.invariant a
    c.loop-d-test.true c.index-pieces-d.is c.as_slice.ensures c.in-Err.ensures.full (c.in-Err.ensures.filled ks a) c.stopped.ensures.same c.stopped.ensures.full

pub returns-clause-groups : goal.returns-clause-groups
returns-clause-groups c = λ ks a. groups_end c.args.m.now c.args.case.now.own.now.columns c.args.case.now.own.now.rows c.args.case.now.kills.now c.args.room c.args.pieces.now ks c.loop-d.d c.loop-d.out c.loop-d.invariant c.loop-d-test.false a

pub returns-clause-within : goal.returns-clause-within
returns-clause-within c = c.loop-d.invariant.within

pub loop-d-preserved : goal.loop-d-preserved
loop-d-preserved c =
    parts_next c.args.m.now c.args.case.now.own.now.columns c.args.case.now.own.now.rows c.args.case.now.kills.now c.args.room c.args.pieces.now c.loop-d.d c.saturating_sub-left.result c.index-pieces-d.result c.as_slice.result.now c.loop-d.out c.push_remainders.new.out c.cut_piece.new.kept c.loop-d.invariant c.loop-d-test.true
    c.index-pieces-d.is c.as_slice.ensures c.in-Ok.ensures.cut (c.saturating_sub-left.ensures ∙ ap (λ n. c.args.room - n) c.len.ensures) c.in-Ok.ensures.within c.in-Ok-push_remainders.ensures
