use Rattle.std.proofs.Common.{length}
use Rattle.ac_forms.proofs.RowTests.{rows_at}
use Rattle.ac_omega_steps.proofs.back.greatest_low.Goals as goal

pub low_step-requires-clause-within : goal.low_step-requires-clause-within
low_step-requires-clause-within c = rows_at (length c.args.point.now) c.args.rows.now c.loop-row.row-index c.row-item.result c.requires.within c.loop-row-test.true c.row-item.is
