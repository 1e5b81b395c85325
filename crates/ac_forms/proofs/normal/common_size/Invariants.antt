use Rattle.ac_forms.proofs.Sizes.{SizeHalfway}
use Rattle.ac_forms.proofs.normal.common_size.Given as goal

abbrev pub invariant-loop-coef : goal.invariant-loop-coef
invariant-loop-coef l = SizeHalfway l.coefs l.divisor l.coef-index
