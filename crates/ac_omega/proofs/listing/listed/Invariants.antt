use Rattle.std.proofs.Common.{◌≡◌, length}
use Rattle.ac_omega.specs.Cursors.{alternatives_left, IsSound}
use Rattle.ac_omega_certify.specs.Alternatives.{alternatives_for, all_of}
use Rattle.ac_omega_certify.proofs.GatheredChoices.{gathered}
use Rattle.ac_omega.proofs.listing.listed.Given as goal

abbrev pub invariant-choices : goal.invariant-choices
invariant-choices l = record {
  sound : IsSound l.strategy l.z l.rows l.cursor;
  so_far : all_of (alternatives_for l.strategy l.z l.rows) ≡ gathered l.made (alternatives_left l.strategy l.z l.rows l.cursor);
}

abbrev pub decreases-choices : goal.decreases-choices
decreases-choices l = length (alternatives_left l.strategy l.z l.rows l.cursor)
