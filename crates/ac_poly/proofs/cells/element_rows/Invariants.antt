use Rattle.ac_poly.proofs.Bounding.{Bounded}
use Rattle.ac_poly.proofs.cells.element_rows.Given as goal

abbrev pub invariant-loop-extent : goal.invariant-loop-extent
invariant-loop-extent l = Bounded l.fn.first l.extents l.extent-index l.column l.rows
