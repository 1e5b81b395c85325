use Rattle.std.proofs.Common.{sym, subst}
use Rattle.ac_omega_certify.specs.Descents.{IsFormUpTo2To122}
use Rattle.ac_omega_certify.proofs.ShownSizes.{dark-moderate, moderate-fits}
use Rattle.ac_omega_certify.proofs.shown_pair.left_shadow.Goals as goal

pub normal_of-requires-clause-fits : goal.normal_of-requires-clause-fits
normal_of-requires-clause-fits c = moderate-fits c.in_ok-form.form (subst IsFormUpTo2To122 (sym c.in_ok-form.ensures) (dark-moderate c.args.z c.args.low.now c.args.high.now c.requires.within_2_to_120 c.requires.low c.requires.high))
