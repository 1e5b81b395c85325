use Rattle.std.proofs.Common.{take}
use Rattle.ac_omega_certify.specs.RowRemainders.{AreLeftAt}
use Rattle.ac_omega_certify.proofs.left_search.places_of.Given as goal

abbrev pub invariant-loop-row : goal.invariant-loop-row
invariant-loop-row l = AreLeftAt l.places.items (take l.row-index l.rows) l.lefts
