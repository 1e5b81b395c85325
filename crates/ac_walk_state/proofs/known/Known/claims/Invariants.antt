use Rattle.std.proofs.Common.{◌≡◌, map, take}
use Rattle.ac_walk_state.specs.RecurrencePairs.{claim_of}
use Rattle.ac_walk_state.proofs.known.Known.claims.Given as goal

abbrev pub invariant-loop-widening_point : goal.invariant-loop-widening_point
invariant-loop-widening_point l = l.claims.items ≡ map claim_of (take l.widening_point-index l.self.widening_points.items)
