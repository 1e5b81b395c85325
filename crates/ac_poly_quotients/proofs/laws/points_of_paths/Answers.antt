use Rattle.ac_poly_quotients.proofs.LoopPaths.{paths_are_points, paths_have_quotients, paths_have_forms}
use Rattle.ac_poly_quotients.proofs.laws.points_of_paths.Goals as goal

pub returns-clause-points : goal.returns-clause-points
returns-clause-points c = paths_are_points

pub returns-clause-quotients : goal.returns-clause-quotients
returns-clause-quotients c = paths_have_quotients

pub returns-clause-forms : goal.returns-clause-forms
returns-clause-forms c = paths_have_forms
