use Rattle.std.proofs.Common.{List, ℤ, Option, subst}
use Rattle.std.specs.Prelude.{IfNone}
use Rattle.ac_walk.specs.TriedValuations.{IsTriedToo}
use Rattle.ac_walk.specs.declared.differing.Difference.{Difference}
use Rattle.ac_walk.proofs.Trying.{next_tried}
use Rattle.ac_walk.proofs.differing.first_difference.Goals as goal

pub loop-at-preserved : goal.loop-at-preserved
loop-at-preserved c =
    let pair = c.args.pair.now in
    let number = c.args.number in
    let before = c.loop-at.tried in
    let after = c.try_new.new.tried in
    let at = c.at-item.result in
    let tried = subst (λ (o : Option Difference). IfNone o (IsTriedToo pair number before c.as_slice.result.now after)) c.in-None.is c.in_ok-found.ensures.tried in
    next_tried pair number before after c.args.valuations.now c.loop-at.at-index at c.loop-at-test.true c.at-item.is c.loop-at.invariant (subst (λ (v : List ℤ). IsTriedToo pair number before v after) c.as_slice.ensures tried)
