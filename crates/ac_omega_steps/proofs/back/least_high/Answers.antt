use Rattle.std.proofs.Common.{length}
use Rattle.ac_forms.proofs.RowTests.{rows_at}
use Rattle.ac_omega_steps.proofs.back.least_high.Goals as goal

pub high_step-requires-clause-within : goal.high_step-requires-clause-within
high_step-requires-clause-within c = rows_at (length c.args.point.now) c.args.rows.now c.loop-row.row-index c.row-item.result c.requires.within c.loop-row-test.true c.row-item.is
