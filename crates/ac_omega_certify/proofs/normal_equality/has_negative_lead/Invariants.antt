use Rattle.std.proofs.Common.{◌≡◌, drop}
use Rattle.ac_forms.specs.NormalRows.{leads_negative}
use Rattle.ac_omega_certify.proofs.normal_equality.has_negative_lead.Given as goal

abbrev pub invariant-loop-coef : goal.invariant-loop-coef
invariant-loop-coef l = leads_negative l.coefs ≡ leads_negative (drop l.coef-index l.coefs)
