use Rattle.std.proofs.Common.{FitsSigned}
use Rattle.std.specs.Int.{w128}
use Rattle.ac_base.proofs.Bits.{read_back}
use Rattle.ac_omega_certify.proofs.Raising.{bounds_lead}
use Rattle.ac_omega_certify.proofs.path.TreePath.add_bounds.Goals as goal

pub returns-clause-leads : goal.returns-clause-leads
returns-clause-leads c = λ start path names f g h o p q la lb ld v z.
    let fa : FitsSigned w128 c.args.a = c.ranges.a in
    let fb : FitsSigned w128 c.args.b = c.ranges.b in
    let fd : FitsSigned w128 c.args.d = c.ranges.d in
    bounds_lead c.args.self.now c.add_two.new.self c.raise.new.self start path names c.args.x c.args.y c.in_ok-sum.sum c.in_ok-place.place c.args.a c.args.b c.args.d f g c.in_ok-sum.ensures.base.one
    (simp read_back at c.in_ok-sum.ensures.leads) (simp read_back at c.in_ok-place.ensures.leads) h o p q la lb ld v z
