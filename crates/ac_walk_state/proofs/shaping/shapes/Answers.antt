use Rattle.ac_walk_state.proofs.Shapes.{all_shapes, one_more}
use Rattle.ac_walk_state.proofs.shaping.shapes.Goals as goal

pub loop-stmt-preserved : goal.loop-stmt-preserved
loop-stmt-preserved c =
    one_more c.loop-stmt.made c.push.new.self c.args.model.now.stmts c.as_slice-stmt-items.result.now c.loop-stmt.stmt-index c.len.result c.len-in-loop-stmt.result c.stmt-item.result c.as_slice-stmt-items.ensures c.loop-stmt.invariant c.loop-stmt-test.true c.stmt-item.is c.len.ensures c.len-in-loop-stmt.ensures c.in_ok-push.ensures.ok

pub returns : goal.returns
returns c = all_shapes c.loop-stmt.made c.args.model.now.stmts c.as_slice-stmt-items.result.now c.loop-stmt.stmt-index c.as_slice-stmt-items.ensures c.loop-stmt.invariant c.loop-stmt-test.false
