use Rattle.ac_poly.proofs.Differences.{equalities_hold}
use Rattle.ac_poly.proofs.laws.equal_cells.Goals as goal

pub returns : goal.returns
returns c = equalities_hold
