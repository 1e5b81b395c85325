use Rattle.ac_legal_law.specs.OrderQuestions.{same_cells}
use Rattle.ac_legal.proofs.Reading.{Added}
use Rattle.ac_legal.proofs.cells.push_reading.Given as goal

abbrev pub invariant-loop-node : goal.invariant-loop-node
invariant-loop-node l = Added (λ a. same_cells l.columns l.cell.columns.now a (record { array = l.cell.array; subs = l.cell.subs.now })) l.nodes l.fn.out l.node-index l.out
