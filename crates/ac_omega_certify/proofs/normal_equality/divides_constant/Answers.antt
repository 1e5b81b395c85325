use Rattle.std.proofs.Common.{FitsSigned, rules, unsigned_abs}
use Rattle.std.specs.Int.{w128}
use Rattle.ac_base.proofs.Bits.{again_128}
use Rattle.ac_forms.proofs.Signs.{divides_by}
use Rattle.ac_omega_certify.proofs.normal_equality.divides_constant.Goals as goal

pub returns : goal.returns
returns c =
    let f : FitsSigned w128 c.konst.result = search rules in
    rw (← c.konst.ensures) (divides_by c.is_multiple.result (unsigned_abs c.args.size) c.konst.result (rw (again_128 _ c.ranges.size, again_128 _ f) at c.is_multiple.ensures))
