use Rattle.ac_match.proofs.Looks.{scan_step, scan_found}
use Rattle.ac_match.proofs.look.look_at_all.Goals as goal

pub returns-in-Extended : goal.returns-in-Extended
returns-in-Extended c =
    scan_found c.args.refuted.now c.args.assigned.now c.loop-partial.partial-index c.partial-item.result c.loop-partial.invariant c.loop-partial-test.true c.partial-item.is (rw c.as_slice.ensures at c.in-Extended.ensures)

pub loop-partial-preserved : goal.loop-partial-preserved
loop-partial-preserved c =
    scan_step c.args.refuted.now c.args.assigned.now c.loop-partial.partial-index c.partial-item.result c.loop-partial.invariant c.loop-partial-test.true c.partial-item.is (rw c.as_slice.ensures at c.in-Contradicted.ensures)
