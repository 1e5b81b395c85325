use Rattle.std.proofs.Common.{◌≡◌, ◌≤◌, ◌*◌, drop, min}
use Rattle.ac_assoc.specs.ChosenOrders.{product}
use Rattle.ac_assoc.proofs.mixed.arrangements.Given as goal

abbrev pub invariant-loop-chain : goal.invariant-loop-chain
invariant-loop-chain l = record { value : min (product l.chains) 1025 ≡ min (l.count * product (drop l.chain-index l.chains)) 1025; few : l.count ≤ 1025 }
