use Rattle.std.proofs.Common.{unsigned_abs}
use Rattle.ac_forms.proofs.Sizes.{CommonHalfway}
use Rattle.ac_forms.proofs.normal.common_with.Given as goal

abbrev pub invariant-loop-coef : goal.invariant-loop-coef
invariant-loop-coef l = CommonHalfway l.coefs (unsigned_abs l.fn.modulus) l.divisor l.coef-index
