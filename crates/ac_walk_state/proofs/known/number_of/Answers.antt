use Rattle.std.proofs.Common.{◌≡◌, sym, true}
use Rattle.ac_walk_state.specs.RecurrencePairs.{positions}
use Rattle.ac_walk_state.proofs.LastItems.{not_more}
use Rattle.ac_walk_state.proofs.known.number_of.Goals as goal

pub loop-at-preserved : goal.loop-at-preserved
loop-at-preserved c =
    not_more positions c.args.widening_points.now c.loop-at.at c.index-widening_points-at.result (c.args.left.now, c.args.right.now) c.loop-at-test.true c.index-widening_points-at.is
    (λ same. let t : c.is_at.result ≡ true = c.is_at.ensures.1 (sym same) in let f = c.if-is_at.false in absurd cc) c.loop-at.invariant
