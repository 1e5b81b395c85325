use Rattle.std.proofs.Common.{◌≡◌, length}
use Rattle.ac_cert_short.proofs.PlacedMarks.{KidsGoing}
use Rattle.ac_cert_short.proofs.placing.+placing.Given as goal

abbrev pub invariant-placed_kids-loop-kid : goal.invariant-placed_kids-loop-kid
invariant-placed_kids-loop-kid l = record {
  same : l.places.items ≡ l.fn.places.items;
  going : KidsGoing l.fn.kids.items l.left.items l.fn.places.items l.fn.count l.made.items;
}

abbrev pub decreases-placed_kids-loop-kid : goal.decreases-placed_kids-loop-kid
decreases-placed_kids-loop-kid l = length l.left.items
