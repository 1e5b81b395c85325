use Rattle.std.proofs.Common.{◌≡◌, ◌++◌, take}
use Rattle.ac_poly_quotients.proofs.scopes.push_quots.Given as goal

abbrev pub invariant-loop-quot : goal.invariant-loop-quot
invariant-loop-quot l = l.out ≡ l.fn.out ++ take l.quot-index l.quots
