use Rattle.ac_walk_state.proofs.Members.{none_found}
use Rattle.ac_walk_state.proofs.widening_point.WideningPoint.is_empty.Goals as goal

pub returns-clause-members : goal.returns-clause-members
returns-clause-members c =
    let i = c.self.inside in
    rw (← c.self.view_is) (none_found i.hull i.members i.places i.kept i.rows c.is_empty.result c.self.invariant c.is_empty.ensures)
