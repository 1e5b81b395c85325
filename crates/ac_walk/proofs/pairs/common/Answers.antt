use Rattle.std.proofs.Common.{[], ◌+◌, List, subst, sym, take, ◌∙◌}
use Rattle.std.proofs.lemmas.List.{take_all}
use Rattle.ac_syntax.specs.declared.tree.Position.{Position}
use Rattle.ac_walk_state.proofs.LastItems.{reread, take_none}
use Rattle.ac_walk.proofs.Widened.{AreCommon, common_less, common_more, none_common}
use Rattle.ac_walk.proofs.pairs.common.Goals as goal
use Rattle.ac_walk.proofs.pairs.common.Goals.{then-is_among+in_ok-push, else-is_among}

pub loop-pair-init : goal.loop-pair-init
loop-pair-init c =
    subst (AreCommon (take 0 c.args.pairs.now) c.args.others.now) (sym c.new-made.ensures)
    (subst (λ (xs : List (Position × Position)). AreCommon xs c.args.others.now []) (sym (take_none c.args.pairs.now)) (none_common c.args.others.now))

pub loop-pair-preserved : goal.loop-pair-preserved
loop-pair-preserved c =
    let pairs = c.args.pairs.now in
    let others = c.args.others.now in
    let i = c.loop-pair.pair-index in
    let l = c.loop-pair-test.true in
    elim c.if-is_among.branch [
      | then-is_among+in_ok-push w ↦ common_more pairs others c.loop-pair.made c.if-is_among.made i _ l (reread pairs i _ l) (c.is_among.ensures.0 w.if-is_among.true) (w.made-is ∙ w.in_ok-push.ensures.ok) c.loop-pair.invariant
      | else-is_among w ↦ subst (AreCommon (take (i + 1) pairs) others) (sym w.made-is) (common_less pairs others c.loop-pair.made i _ l (reread pairs i _ l) (λ k. let t = c.is_among.ensures.1 k in let f = w.if-is_among.false in absurd cc) c.loop-pair.invariant)
    ]

pub returns : goal.returns
returns c = subst (λ (xs : List (Position × Position)). AreCommon xs c.args.others.now c.loop-pair.made) (take_all c.loop-pair.pair-index c.args.pairs.now c.loop-pair-test.false) c.loop-pair.invariant
