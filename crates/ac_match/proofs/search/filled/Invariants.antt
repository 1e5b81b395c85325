use Rattle.std.proofs.Common.{◌≡◌, take}
use Rattle.ac_match.specs.MatchInternals.Search.{filled}
use Rattle.ac_match.proofs.search.filled.Given as goal

abbrev pub invariant-loop-order : goal.invariant-loop-order
invariant-loop-order l = l.made ≡ filled (take l.order-index l.assigned)
