use Rattle.std.proofs.Common.{refl}
use Rattle.ac_walk_state.proofs.Choosing.{has_found, has_not_more}
use Rattle.ac_walk_state.proofs.LastItems.{reread}
use Rattle.ac_walk.proofs.pairs.is_among.Goals as goal

pub returns-then-is_pair : goal.returns-then-is_pair
returns-then-is_pair c =
    let l = c.loop-other-test.true in
    ((λ _. has_found c.args.pairs.now c.loop-other.other-index _ c.args.pair.now l (reread c.args.pairs.now c.loop-other.other-index _ l) (c.is_pair.ensures.0 c.if-is_pair.true)), (λ _. refl))

pub loop-other-preserved : goal.loop-other-preserved
loop-other-preserved c =
    let l = c.loop-other-test.true in
    has_not_more c.args.pairs.now c.loop-other.other-index _ c.args.pair.now l (reread c.args.pairs.now c.loop-other.other-index _ l) (λ same. let t = c.is_pair.ensures.1 same in let f = c.if-is_pair.false in absurd cc) c.loop-other.invariant
