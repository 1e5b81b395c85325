use Rattle.ac_legal_law.specs.OrderQuestions.{same_cells}
use Rattle.ac_legal.proofs.Reading.{added_step, wide_with}
use Rattle.ac_legal.proofs.cells.push_read_by.Goals as goal

pub loop-node-preserved : goal.loop-node-preserved
loop-node-preserved c =
    added_step (same_cells c.args.cell.now.columns.now c.args.others.now (record { array = c.args.cell.now.array; subs = c.args.cell.now.subs.now })) c.args.nodes.now c.args.out.now c.loop-node.node-index c.loop-node.out c.push_read_at.new.out c.node-item.result
    c.loop-node.invariant c.loop-node-test.true c.node-item.is c.in-Ok.ensures.same

pub returns-in-Err-clause-wide : goal.returns-in-Err-clause-wide
returns-in-Err-clause-wide c =
    wide_with c.args.cell.now.columns.now c.args.others.now (record { array = c.args.cell.now.array; subs = c.args.cell.now.subs.now }) c.args.nodes.now c.loop-node.node-index c.node-item.result c.in-Err.stop c.loop-node-test.true c.node-item.is c.in-Err.ensures.wide
