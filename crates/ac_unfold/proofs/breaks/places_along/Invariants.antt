use Rattle.std.proofs.Common.{◌≡◌, take}
use Rattle.ac_unfold.specs.UnfoldEnds.{places_along}
use Rattle.ac_unfold.proofs.breaks.places_along.Given as goal

abbrev pub invariant-loop-entry : goal.invariant-loop-entry
invariant-loop-entry l = l.places ≡ places_along (take l.entry-index l.path)
