use Rattle.ac_base.proofs.Floor.{floor_greatest, floor_unique, ceil_is}
use Rattle.ac_base.proofs.integers.rounded_quotients.Goals as goal

pub returns-clause-greatest : goal.returns-clause-greatest
returns-clause-greatest c = floor_greatest

pub returns-clause-unique : goal.returns-clause-unique
returns-clause-unique c = floor_unique

pub returns-clause-up : goal.returns-clause-up
returns-clause-up c = ceil_is
