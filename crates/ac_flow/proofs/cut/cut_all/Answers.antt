use Rattle.std.proofs.Common.{sym, subst}
use Rattle.ac_flow.specs.Cuts.{AllHavePoints}
use Rattle.ac_flow.proofs.Asked.{cuts-cases, partly-cases, full_map, if_err, if_both}
use Rattle.ac_flow.proofs.Aparts.{cuts-apart, partly-apart}
use Rattle.ac_flow.proofs.CutLoops.{none-fits}
use Rattle.ac_flow.proofs.Points.{is_left, partly-pieces, cuts-pieces, on_ok, cuts-of}
use Rattle.ac_flow.proofs.cut.cut_all.Goals as goal

pub returns-clause-made : goal.returns-clause-made
returns-clause-made c =
    on_ok c.cut_each.result _ _ (λ k. cuts-pieces c.args.columns c.args.pieces.now c.args.kill.now c.cut_each.new.kept c.requires.made c.requires.kill (cuts-of c.args.pieces.now c.args.kill.now c.args.kept.now c.cut_each.new.kept c.requires.empty k)) c.cut_each.ensures.cut

pub returns-clause-left : goal.returns-clause-left
returns-clause-left c =
    on_ok c.cut_each.result _ _ (λ k. is_left c.args.columns c.args.pieces.now c.args.kill.now c.cut_each.new.kept c.requires.made c.requires.kill (cuts-of c.args.pieces.now c.args.kill.now c.args.kept.now c.cut_each.new.kept c.requires.empty k)) c.cut_each.ensures.cut

pub returns-clause-asked : goal.returns-clause-asked
returns-clause-asked c = λ case kills a f.
    on_ok c.cut_each.result _ _ (λ k. cuts-cases case kills c.args.pieces.now c.args.kill.now c.cut_each.new.kept a f (cuts-of c.args.pieces.now c.args.kill.now c.args.kept.now c.cut_each.new.kept c.requires.empty k)) c.cut_each.ensures.cut

pub returns-clause-have : goal.returns-clause-have
returns-clause-have c = λ a. c.cut_each.ensures.have a (subst AllHavePoints (sym c.requires.empty) tt)

pub returns-clause-apart : goal.returns-clause-apart
returns-clause-apart c = λ a.
    on_ok c.cut_each.result _ _ (λ k. cuts-apart c.args.columns c.args.pieces.now c.args.kill.now c.cut_each.new.kept c.requires.made c.requires.kill a (cuts-of c.args.pieces.now c.args.kill.now c.args.kept.now c.cut_each.new.kept c.requires.empty k)) c.cut_each.ensures.cut

pub returns-clause-full : goal.returns-clause-full
returns-clause-full c = λ a.
    if_both c.cut_each.result _ _ _ (λ n k. (
      n,
      partly-apart c.args.columns c.args.pieces.now c.args.kill.now c.args.kept.now c.cut_each.new.kept c.requires.empty c.requires.made c.requires.kill a k.1,
      partly-pieces c.args.columns c.args.pieces.now c.args.kill.now c.args.kept.now c.cut_each.new.kept c.requires.empty c.requires.made c.requires.kill k.1,
    ))
    (c.cut_each.ensures.one_more (none-fits c.args.room c.args.kept.now c.requires.empty)) c.cut_each.ensures.full

pub returns-clause-within : goal.returns-clause-within
returns-clause-within c = c.cut_each.ensures.within (none-fits c.args.room c.args.kept.now c.requires.empty)

pub returns-clause-filled : goal.returns-clause-filled
returns-clause-filled c = λ case kills a f.
    if_err c.cut_each.result _ _ (λ e. full_map e _ _ (λ k. partly-cases case kills c.args.pieces.now c.args.kill.now c.args.kept.now c.cut_each.new.kept c.requires.empty a f k.1)) c.cut_each.ensures.full
