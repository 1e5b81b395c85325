use Rattle.ac_omega.proofs.Advances.{need-some}
use Rattle.ac_omega.proofs.needs.splinter_count.Goals as goal

pub count_for-requires : goal.count_for-requires
count_for-requires c = rw c.in_ok-need.ensures (need-some c.args.strategy c.args.z c.args.rows.now _ c.requires.sides)
