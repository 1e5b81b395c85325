use Rattle.std.proofs.Common.{rules}
use Rattle.ac_forms.proofs.Sizes.{size_made}
use Rattle.ac_forms.proofs.normal.common_size.Goals as goal

pub loop-coef-preserved : goal.loop-coef-preserved
loop-coef-preserved c =
    size_made c.args.coefs.now c.loop-coef.divisor c.loop-coef.coef-index _ _ _ c.loop-coef.invariant (search rules) (search rules) c.in-Some.ensures c.unsigned_abs.ensures.value c.common_divisor-divisor.ensures
