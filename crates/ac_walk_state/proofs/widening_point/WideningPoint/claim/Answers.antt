use Rattle.ac_walk_state.proofs.Testing.{rows_with-over}
use Rattle.ac_walk_state.proofs.widening_point.WideningPoint.claim.Goals as goal

pub returns-clause-over : goal.returns-clause-over
returns-clause-over c =
    let i = c.self.inside in
    let e = rw c.as_slice.ensures at c.in_ok-rows_of.ensures in
    rw (← c.self.view_is) (rw e (rows_with-over i.hull.columns i.hull.members i.rows c.self.invariant.over))
