use Rattle.std.proofs.Common.{◌∙◌, List, ◌∷◌, [], ◌++◌, ap}
use Rattle.ac_forms.specs.declared.conj.Conj.{Conj}
use Rattle.ac_flow.proofs.Asked.{if_err, full_map, on_case}
use Rattle.ac_flow.proofs.CutLoops.{none-fits}
use Rattle.ac_flow.proofs.Points.{on_ok}
use Rattle.ac_flow.proofs.Remains.{start_with, alone-full, alone-cases}
use Rattle.ac_flow.proofs.case.start.Goals as goal

pub returns-in-Err-clause-stops : goal.returns-in-Err-clause-stops
returns-in-Err-clause-stops c = λ kills. on_case c.args.budget c.args.case.now kills c.in-Err.stop c.in-Err.ensures.stops

pub returns-in_ok-copy-in-Ok-true-clause-stops : goal.returns-in_ok-copy-in-Ok-true-clause-stops
returns-in_ok-copy-in-Ok-true-clause-stops c = λ kills.
    if_err c.push_kept.result _ _ (λ e s. on_case c.args.budget c.args.case.now kills e s) (c.push_kept.ensures.stops c.args.budget c.args.case.now)

pub returns-in_ok-copy-in-Ok-true-clause-start : goal.returns-in_ok-copy-in-Ok-true-clause-start
returns-in_ok-copy-in-Ok-true-clause-start c =
    on_ok c.push_kept.result _ _ (λ k. start_with c.args.case.now c.in_ok-copy-in-Ok-true.field-0 c.push_kept.new.kept c.requires.made (c.in-Ok-true.ensures.some c.in-Ok-true.field-0-test) c.in_ok-copy-in-Ok-true.ensures (k ∙ ap (λ (x : List Conj). x ++ c.in_ok-copy-in-Ok-true.field-0 ∷ []) c.requires.empty))
    c.push_kept.ensures.kept

pub returns-in_ok-copy-in-Ok-true-clause-full : goal.returns-in_ok-copy-in-Ok-true-clause-full
returns-in_ok-copy-in-Ok-true-clause-full c =
    alone-full c.push_kept.result c.args.room c.args.case.now c.in_ok-copy-in-Ok-true.field-0 c.args.pieces.now c.push_kept.new.kept c.requires.made c.in_ok-copy-in-Ok-true.ensures c.requires.empty
    (c.push_kept.ensures.one_more (none-fits c.args.room c.args.pieces.now c.requires.empty)) c.push_kept.ensures.full

pub returns-in_ok-copy-in-Ok-true-clause-filled : goal.returns-in_ok-copy-in-Ok-true-clause-filled
returns-in_ok-copy-in-Ok-true-clause-filled c = λ kills.
    if_err c.push_kept.result _ _ (λ e. full_map e _ _ (λ k. alone-cases kills c.args.case.now c.in_ok-copy-in-Ok-true.field-0 c.args.pieces.now c.push_kept.new.kept c.requires.empty c.in_ok-copy-in-Ok-true.ensures k.1)) c.push_kept.ensures.full
