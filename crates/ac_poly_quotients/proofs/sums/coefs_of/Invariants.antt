use Rattle.std.proofs.Common.{◌≡◌, take, map}
use Rattle.ac_poly_quotients.specs.QuotientScopes.{coef_of}
use Rattle.ac_poly_quotients.proofs.sums.coefs_of.Given as goal

abbrev pub invariant-loop-quot : goal.invariant-loop-quot
invariant-loop-quot l = l.made ≡ map coef_of (take l.quot-index l.quots)
