use Rattle.ac_omega_certify.proofs.Names.{Named}
use Rattle.ac_omega_certify.proofs.renamed.renamed.Given as goal

abbrev pub invariant-loop-k : goal.invariant-loop-k
invariant-loop-k l = Named l.names l.columns l.form l.coefs.items l.k
