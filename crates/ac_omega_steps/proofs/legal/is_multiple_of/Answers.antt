use Rattle.std.proofs.Common.{unsigned_abs}
use Rattle.ac_forms.proofs.Signs.{divides_by}
use Rattle.ac_base.proofs.Bits.{again_128}
use Rattle.ac_omega_steps.proofs.legal.is_multiple_of.Goals as goal

pub returns : goal.returns
returns c = divides_by c.is_multiple.result (unsigned_abs c.args.modulus) c.args.number (rw (again_128 _ c.ranges.modulus, again_128 _ c.ranges.number) at c.is_multiple.ensures)
