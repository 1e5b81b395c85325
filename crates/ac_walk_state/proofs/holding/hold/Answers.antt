use Rattle.ac_forms.proofs.RowTests.{rows_at}
use Rattle.ac_walk_state.proofs.holding.hold.Goals as goal

pub holds_at-requires : goal.holds_at-requires
holds_at-requires c = rows_at _ _ c.loop-row.row-index _ c.requires c.loop-row-test.true c.row-item.is
