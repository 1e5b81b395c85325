use Rattle.ac_graph.proofs.Stepping.{chains_recur}
use Rattle.ac_graph.proofs.laws.chains_pass_recurrence_pairs.Goals as goal

pub returns : goal.returns
returns c = chains_recur
