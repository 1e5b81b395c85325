use Rattle.ac_walk_state.proofs.ContextPoints.{tested_points}
use Rattle.ac_walk_state.proofs.part_laws.tested_points_are_valuations.Goals as goal

pub returns : goal.returns
returns c = tested_points
