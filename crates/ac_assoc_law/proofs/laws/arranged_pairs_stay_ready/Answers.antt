use Rattle.ac_assoc_law.proofs.Staying.{pairs_are_ready}
use Rattle.ac_assoc_law.proofs.StayingArities.{pairs_have_arities}
use Rattle.ac_assoc_law.proofs.StayingCells.{pairs_have_dimensions}
use Rattle.ac_assoc_law.proofs.StayingSmall.{pairs_are_small}
use Rattle.ac_assoc_law.proofs.laws.arranged_pairs_stay_ready.Goals as goal

pub returns : goal.returns
returns c = record { ready = pairs_are_ready; arities = pairs_have_arities; dimensions = pairs_have_dimensions; small = pairs_are_small }
