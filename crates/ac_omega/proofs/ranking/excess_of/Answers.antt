use Rattle.std.proofs.Common.{arith}
use Rattle.ac_omega.proofs.Pairs.{sides-length}
use Rattle.ac_omega.proofs.ranking.excess_of.Goals as goal

pub excess-requires : goal.excess-requires
excess-requires c = omega (arith, sides-length c.args.z c.args.rows.now)
