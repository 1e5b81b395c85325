use Rattle.std.proofs.Common.{get_or, refl, arith}
use Rattle.ac_omega_certify.proofs.LeftRows.{left_more}
use Rattle.ac_omega_certify.proofs.path.TreePath.show_all_left.Goals as goal

pub loop-i-preserved : goal.loop-i-preserved
loop-i-preserved c =
    left_more c.args.self.now c.loop-i.self c.show_left.new.self c.args.names.now c.args.rows.now c.args.places.now c.loop-i.lefts.items c.push.new.self.items c.loop-i.i (get_or c.args.places.now c.loop-i.i 0) c.index-rows-i.result c.in_ok-left.left
    c.loop-i.invariant c.in_ok-left.ensures.base (omega arith) c.index-rows-i.is refl c.in_ok-left.ensures.row c.in_ok-left.ensures.shows c.in_ok-push.ensures.items
