use Rattle.ac_gen.proofs.Pairs.{everywhere, runs, within}
use Rattle.ac_gen.proofs.laws.generated_pairs_run_everywhere.Goals as goal

pub returns-clause-valuations : goal.returns-clause-valuations
returns-clause-valuations c = everywhere

pub returns-clause-ready : goal.returns-clause-ready
returns-clause-ready c = runs

pub returns-clause-within : goal.returns-clause-within
returns-clause-within c = within
