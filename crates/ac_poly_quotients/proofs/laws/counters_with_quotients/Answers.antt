use Rattle.ac_poly_quotients.proofs.CounterOrder.{counters_are_read, counters_are_the_same}
use Rattle.ac_poly_quotients.proofs.laws.counters_with_quotients.Goals as goal

pub returns-clause-read : goal.returns-clause-read
returns-clause-read c = counters_are_read

pub returns-clause-same : goal.returns-clause-same
returns-clause-same c = counters_are_the_same
