use Rattle.ac_omega_certify.proofs.ShownSizes.{pair-fits}
use Rattle.ac_omega_certify.proofs.shown_pair.reason_for.Goals as goal

pub unreachable-requires-in-Err-Wide : goal.unreachable-requires-in-Err-Wide
unreachable-requires-in-Err-Wide c = (rw c.in-Err-Wide.field-0-is at c.in-Err-Wide.ensures.exact) (pair-fits c.args.z c.args.low.now c.args.high.now c.requires.within_2_to_120 c.requires.low c.requires.high)
