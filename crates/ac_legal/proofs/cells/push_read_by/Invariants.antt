use Rattle.ac_legal_law.specs.OrderQuestions.{same_cells}
use Rattle.ac_legal.proofs.Reading.{Added}
use Rattle.ac_legal.proofs.cells.push_read_by.Given as goal

abbrev pub invariant-loop-node : goal.invariant-loop-node
invariant-loop-node l = Added (same_cells l.cell.columns.now l.others (record { array = l.cell.array; subs = l.cell.subs.now })) l.nodes l.fn.out l.node-index l.out
