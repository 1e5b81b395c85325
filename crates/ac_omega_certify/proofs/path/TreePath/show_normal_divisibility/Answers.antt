use Rattle.std.proofs.Common.{sym, ◌∙◌}
use Rattle.ac_omega_certify.proofs.NormalDivisibilities.{quotient_some}
use Rattle.ac_omega_certify.proofs.path.TreePath.show_normal_divisibility.Goals as goal

pub show_quotient-requires-clause-quotient : goal.show_quotient-requires-clause-quotient
show_quotient-requires-clause-quotient c = quotient_some c.args.modulus c.args.form.now c.in-Kept.row c.requires.positive (sym c.requires.normal ∙ c.in-Kept.is)
