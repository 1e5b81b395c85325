use Rattle.std.proofs.Common.{◌≡◌, take}
use Rattle.ac_poly_quotients.proofs.copy.copy_named.Given as goal

abbrev pub invariant-loop-one : goal.invariant-loop-one
invariant-loop-one l = l.made ≡ take l.one-index l.named
