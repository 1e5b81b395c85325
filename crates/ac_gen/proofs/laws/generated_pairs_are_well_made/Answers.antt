use Rattle.ac_gen.proofs.Pairs.{paired, small, lowered}
use Rattle.ac_gen.proofs.laws.generated_pairs_are_well_made.Goals as goal

pub returns-clause-paired : goal.returns-clause-paired
returns-clause-paired c = paired

pub returns-clause-small : goal.returns-clause-small
returns-clause-small c = small

pub returns-clause-lowered : goal.returns-clause-lowered
returns-clause-lowered c = lowered
