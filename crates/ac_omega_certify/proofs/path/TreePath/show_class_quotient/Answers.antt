use Rattle.std.proofs.Common.{FitsSigned}
use Rattle.std.specs.Int.{w128}
use Rattle.ac_base.proofs.Bits.{read_back}
use Rattle.ac_omega_certify.proofs.QuotientSteps.{quotient_leads}
use Rattle.ac_omega_certify.proofs.path.TreePath.show_class_quotient.Goals as goal

pub returns-clause-leads : goal.returns-clause-leads
returns-clause-leads c = λ start path h ns s.
    let fm : FitsSigned w128 c.args.m = c.ranges.m in
    let fr : FitsSigned w128 c.args.r = c.ranges.r in
    quotient_leads c.args.self.now c.add_row.new.self c.quotient.new.self start path c.args.names.now c.args.z c.args.class c.in_ok-stated.stated c.in_ok-place.place c.args.m c.args.r c.in_ok-form.form
    (simp read_back at c.in_ok-form.ensures) c.requires.column c.requires.modulus c.requires.low fm fr (simp read_back at c.in_ok-stated.ensures) c.in_ok-place.ensures.place c.in_ok-place.ensures.reaches h ns s
