use Rattle.ac_flow_budget.proofs.CellsUsed.{has_dimensions}
use Rattle.ac_flow_budget.proofs.dimension_laws.cells_have_dimensions.Goals as goal

pub returns : goal.returns
returns c = λ file h. has_dimensions file h
