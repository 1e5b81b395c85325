use Rattle.std.proofs.Common.{FitsSigned}
use Rattle.std.specs.Int.{w128}
use Rattle.ac_base.proofs.Bits.{read_back}
use Rattle.ac_omega_certify.proofs.NormalEqualities.{bounds_shown}
use Rattle.ac_omega_certify.proofs.path.TreePath.show_bounds.Goals as goal

pub returns-clause-bounds : goal.returns-clause-bounds
returns-clause-bounds c =
    let fs : FitsSigned w128 c.args.size = c.ranges.size in
    bounds_shown c.args.self.now c.bound_of_equality.new.self c.bound_of_equality-2.new.self c.cut.new.self c.cut-2.new.self c.args.x c.in_ok-low.low c.in_ok-high.high c.in_ok-below.below c.in_ok-above.above c.args.size c.in_ok-low.ensures.base
    c.in_ok-low.ensures.leads c.in_ok-high.ensures.leads (simp read_back at c.in_ok-below.ensures.leads) (simp read_back at c.in_ok-above.ensures.leads)
