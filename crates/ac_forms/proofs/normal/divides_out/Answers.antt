use Rattle.std.proofs.Common.{unsigned_abs}
use Rattle.ac_forms.proofs.Signs.{divides_by}
use Rattle.ac_base.proofs.Bits.{again_128}
use Rattle.ac_forms.proofs.normal.divides_out.Goals as goal

pub returns-else-divisor-eq1 : goal.returns-else-divisor-eq1
returns-else-divisor-eq1 c = divides_by c.is_multiple.result (unsigned_abs c.args.divisor) c.args.number (rw (again_128 _ c.ranges.divisor, again_128 _ c.ranges.number) at c.is_multiple.ensures)
