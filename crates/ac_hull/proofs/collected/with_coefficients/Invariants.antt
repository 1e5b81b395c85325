use Rattle.std.proofs.Common.{◌≡◌, ◌++◌, map, take}
use Rattle.ac_hull.specs.declared.collected.Collected.TheVariants.{Coefficient}
use Rattle.ac_hull.proofs.collected.with_coefficients.Given as goal

abbrev pub invariant-loop-coef : goal.invariant-loop-coef
invariant-loop-coef l = l.made ≡ l.fn.made ++ map Coefficient (take l.coef-index l.coefs)
