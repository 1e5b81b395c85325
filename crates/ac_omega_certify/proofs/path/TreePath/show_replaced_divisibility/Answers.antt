use Rattle.std.proofs.Common.{◌≡◌, ◌*ℤ◌, FitsSigned}
use Rattle.std.specs.Int.{w128}
use Rattle.ac_base.proofs.Bits.{read_back}
use Rattle.ac_omega_certify.proofs.Replacing.{replaced_leads, product_positive}
use Rattle.ac_omega_certify.proofs.path.TreePath.show_replaced_divisibility.Goals as goal

pub returns-clause-leads : goal.returns-clause-leads
returns-clause-leads c = λ start path names f g h a b ls lm q.
    let fs : FitsSigned w128 c.args.size = c.ranges.size in
    let fk : FitsSigned w128 c.args.k = c.ranges.k in
    let fm : FitsSigned w128 c.args.modulus = c.ranges.modulus in
    let both = simp read_back at c.in-Some.ensures in
    let e : c.in-Some.product ≡ c.args.size *ℤ c.args.modulus = both.1 in
    let fn : FitsSigned w128 c.in-Some.product = rw e both.0 in
    replaced_leads c.args.self.now c.scale.new.self c.divide_zero.new.self c.add_divisibilities.new.self start path names c.args.x c.args.y c.in_ok-scaled.scaled c.in_ok-zero.zero c.in_ok-place.place c.args.size c.args.k c.args.modulus c.in-Some.product f g e fs fn
    (simp read_back at c.in_ok-scaled.ensures.leads) (simp read_back at c.in_ok-zero.ensures.leads) (simp read_back at c.in_ok-place.ensures.leads) h a b ls (rw e (product_positive c.args.size c.args.modulus ls lm)) q
