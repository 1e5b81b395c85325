use Rattle.std.proofs.Common.{subst, sym}
use Rattle.ac_syntax.specs.Dimensions.{HasDimensions}
use Rattle.ac_flow_budget.proofs.CellsUsed.{has_dimensions}
use Rattle.ac_flow_budget.proofs.dimension_laws.texts_have_dimensions.Goals as goal

pub returns : goal.returns
returns c = λ bytes program h. subst HasDimensions (sym h.is) (has_dimensions h.file h.rules)
