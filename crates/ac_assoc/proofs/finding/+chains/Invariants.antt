use Rattle.ac_assoc.proofs.Gathering.{ChainsAdded}
use Rattle.ac_assoc.proofs.finding.+chains.Given as goal

abbrev pub invariant-add_all_chains-loop-value : goal.invariant-add_all_chains-loop-value
invariant-add_all_chains-loop-value l = ChainsAdded l.within.names.now l.within.side l.within.stmt l.parent l.first l.values l.fn.chains l.value-index l.chains l.at
