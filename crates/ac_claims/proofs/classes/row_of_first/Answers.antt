use Rattle.ac_claims.proofs.Residues.{never_refused}
use Rattle.ac_claims.proofs.classes.row_of_first.Goals as goal

pub unreachable-requires : goal.unreachable-requires
unreachable-requires c = never_refused c.args.columns c.args.classes.now c.requires c.see_constant.ensures (rw c.in-Err-Refused.field-0-is at c.in-Err-Refused.ensures.exact).0
