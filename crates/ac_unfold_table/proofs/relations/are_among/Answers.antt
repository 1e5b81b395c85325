use Rattle.std.proofs.Common.{sym, ◌∙◌}
use Rattle.ac_unfold_table.proofs.Claiming.{rows_more}
use Rattle.ac_unfold_table.proofs.relations.are_among.Goals as goal

pub loop-row-preserved : goal.loop-row-preserved
loop-row-preserved c = rows_more c.args.rows.now c.args.among.now c.loop-row.row-index c.row-item.result c.loop-row.invariant c.loop-row-test.true c.row-item.is (sym c.is_among.ensures ∙ c.if-not-is_among.false)
