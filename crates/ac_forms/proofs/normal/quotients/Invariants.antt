use Rattle.std.proofs.Common.{◌≡◌, take}
use Rattle.ac_base.specs.Dot.{floored}
use Rattle.ac_forms.proofs.normal.quotients.Given as goal

abbrev pub invariant-loop-coef : goal.invariant-loop-coef
invariant-loop-coef l = l.made.items ≡ floored l.fn.divisor (take l.coef-index l.coefs)
