use Rattle.ac_walk_state.proofs.EqualColumns.{equal_more}
use Rattle.ac_walk_state.proofs.elements.equal_columns.Goals as goal

pub loop-dimension-preserved : goal.loop-dimension-preserved
loop-dimension-preserved c =
    equal_more c.args.first c.args.count c.loop-dimension.dimension c.in-Some.column c.loop-dimension.rows c.push.new.self c.in_ok-equal_row-in-Some.field-0 c.loop-dimension.invariant c.in-Some.ensures.1 c.in_ok-equal_row-in-Some.ensures c.in_ok-push-in-Some.ensures.ok
