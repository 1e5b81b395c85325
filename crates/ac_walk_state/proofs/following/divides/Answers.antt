use Rattle.ac_base.proofs.Bits.{again_128}
use Rattle.ac_walk_state.proofs.following.divides.Goals as goal

pub returns : goal.returns
returns c = rw (again_128 _ c.ranges.modulus, again_128 _ c.ranges.number) at c.is_multiple.ensures
