use Rattle.std.proofs.Common.{◌≡◌, ◌++◌, pos, replicate}
use Rattle.ac_walk_state.proofs.elements.push_zeros.Given as goal

abbrev pub invariant-loop : goal.invariant-loop
invariant-loop l = l.coefs.items ≡ l.initial.coefs.items ++ replicate l.counter (pos 0)
