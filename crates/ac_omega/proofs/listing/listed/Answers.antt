use Rattle.std.proofs.Common.{sym}
use Rattle.ac_omega_certify.specs.Alternatives.{alternatives_for}
use Rattle.ac_omega.proofs.Gathering.{gathered_all}
use Rattle.ac_omega.proofs.listing.listed.Goals as goal

pub choices-init : goal.choices-init
choices-init c = record {
  sound = c.first-cursor.ensures.sound;
  so_far = rw (c.new-made.ensures, c.first-cursor.ensures.value) (sym (gathered_all (alternatives_for c.args.strategy c.args.z c.args.rows.now)));
}
