use Rattle.ac_poly_quotients.specs.OwnQuotients.{value_quots}
use Rattle.ac_poly_quotients.proofs.OwnQuotients.{Pushed}
use Rattle.ac_poly_quotients.proofs.own.+own.Given as goal

abbrev pub invariant-push_values-loop-value : goal.invariant-push_values-loop-value
invariant-push_values-loop-value l = Pushed value_quots l.values l.fn.out l.value-index l.out
