use Rattle.ac_report.proofs.Lists.{named_next}
use Rattle.ac_report.proofs.names.with_numbered.Goals as goal

pub loop-number-preserved : goal.loop-number-preserved
loop-number-preserved c = named_next c.args.letter c.args.made c.loop-number.made c.in_ok-made.made c.loop-number.number c.loop-number.invariant c.in_ok-made.ensures
