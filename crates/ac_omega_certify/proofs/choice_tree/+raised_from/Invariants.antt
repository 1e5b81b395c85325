use Rattle.std.proofs.Common.{◌-◌, length}
use Rattle.ac_omega_certify.proofs.choice_tree.+raised_from.Given as goal

abbrev pub decreases-raised_from : goal.decreases-raised_from
decreases-raised_from l = length l.stage.now.rows.now - l.i
