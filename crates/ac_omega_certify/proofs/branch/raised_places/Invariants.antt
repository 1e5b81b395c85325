use Rattle.std.proofs.Common.{◌≡◌, ◌++◌, drop}
use Rattle.ac_omega_certify.specs.ChoiceBranches.{raised_places}
use Rattle.ac_omega_certify.proofs.branch.raised_places.Given as goal

abbrev pub invariant-loop-i : goal.invariant-loop-i
invariant-loop-i l = l.raised.items ++ raised_places l.z (drop l.i l.rows) (drop l.i l.counts) (drop l.i l.places) l.next ≡ raised_places l.z l.rows l.counts l.places l.first
