use Rattle.ac_poly.proofs.Placing.{element_rows_hold}
use Rattle.ac_poly.proofs.laws.elements_of_arrays.Goals as goal

pub returns : goal.returns
returns c = element_rows_hold
