use Rattle.ac_poly_quotients.specs.OwnQuotients.{form_quots}
use Rattle.ac_poly_quotients.proofs.OwnQuotients.{Pushed}
use Rattle.ac_poly_quotients.proofs.own.push_forms.Given as goal

abbrev pub invariant-loop-form : goal.invariant-loop-form
invariant-loop-form l = Pushed form_quots l.forms l.fn.out l.form-index l.out
