use Rattle.std.proofs.Common.{length}
use Rattle.ac_cert_short.specs.DraftRelations.{MarksPlaced}
use Rattle.ac_cert_short.proofs.placing.place_marks.Given as goal

abbrev pub invariant-loop-mark : goal.invariant-loop-mark
invariant-loop-mark l = MarksPlaced l.fn.marks.items l.left.items l.fn.places.items l.fn.count l.places.items l.reached l.steps

abbrev pub decreases-loop-mark : goal.decreases-loop-mark
decreases-loop-mark l = length l.left.items
