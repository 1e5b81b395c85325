use Rattle.ac_omega.proofs.CommonMultiples.{gcd-positive, lcm_made, lcm_is}
use Rattle.ac_omega.proofs.scan.least_common_multiple.Goals as goal

pub nonzero_div-a : goal.nonzero_div-a
nonzero_div-a c = rw c.greatest_common_divisor-divisor.ensures.value (gcd-positive c.args.a c.args.b c.requires)

pub returns-clause-exact : goal.returns-clause-exact
returns-clause-exact c = lcm_made c.args.a c.args.b _ _ c.greatest_common_divisor-divisor.ensures.value c.checked_mul.ensures

pub returns-clause-least : goal.returns-clause-least
returns-clause-least c = lcm_is c.args.a c.args.b _ _ c.requires c.greatest_common_divisor-divisor.ensures.value c.checked_mul.ensures
