use Rattle.ac_forms.proofs.Twins.{normal_fits-is}
use Rattle.ac_omega_certify.proofs.left.normal_of.Goals as goal

pub unreachable-requires : goal.unreachable-requires
unreachable-requires c = (rw c.in-Err-Wide.field-0-is at c.in-Err-Wide.ensures.exact) ((normal_fits-is c.args.row.now).0 c.requires.fits)
