use Rattle.std.proofs.Common.{rules}
use Rattle.ac_forms.proofs.Signs.{div_made}
use Rattle.ac_forms.proofs.normal.normal_divisibility.Goals as goal

pub returns : goal.returns
returns c =
    div_made c.args.modulus c.common_with-divisor.result c.floor_quotient-quotient.result c.konst.result c.args.form.now c.in_ok-rest.rest c.in_ok-form.form c.coefs.result.now c.divides_out.result
    c.ranges.modulus (search rules) (search rules) (search rules)
    c.in_ok-rest.ensures c.coefs.ensures c.common_with-divisor.ensures.value c.konst.ensures
    c.divides_out.ensures c.if-not-divides_out.false c.floor_quotient-quotient.ensures.value c.if-quotient-eq1.false c.in_ok-form.ensures
