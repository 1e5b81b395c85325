use Rattle.std.proofs.Common.{length}
use Rattle.ac_forms.proofs.RowTests.{rows_at}
use Rattle.ac_claims.proofs.head.rows_hold.Goals as goal

pub row_holds-requires : goal.row_holds-requires
row_holds-requires c = rows_at (length c.args.point.now) c.args.rows.now c.loop-row.row-index c.row-item.result c.requires c.loop-row-test.true c.row-item.is
