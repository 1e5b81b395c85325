use Rattle.std.proofs.Common.{FitsSigned}
use Rattle.std.specs.Int.{w128}
use Rattle.ac_base.proofs.Bits.{read_back}
use Rattle.ac_omega_certify.proofs.Signed.{sign_leads}
use Rattle.ac_omega_certify.proofs.path.TreePath.bound_of_equality.Goals as goal

pub returns-clause-leads : goal.returns-clause-leads
returns-clause-leads c = λ start path names f h o a v.
    let fk : FitsSigned w128 c.args.k = c.ranges.k in
    sign_leads c.args.self.now c.add_two.new.self start path names c.args.x c.in_ok-place.place c.args.k f (simp read_back at c.in_ok-place.ensures.leads) h o a v
