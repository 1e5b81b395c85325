use Rattle.std.proofs.Common.{◌≡◌, take}
use Rattle.ac_walk.proofs.unanswered.copies.Given as goal

abbrev pub invariant-loop-conj : goal.invariant-loop-conj
invariant-loop-conj l = l.made ≡ take l.conj-index l.conjs
