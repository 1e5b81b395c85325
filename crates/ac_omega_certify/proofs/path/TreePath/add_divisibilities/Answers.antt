use Rattle.std.proofs.Common.{FitsSigned}
use Rattle.std.specs.Int.{w128}
use Rattle.ac_base.proofs.Bits.{read_back}
use Rattle.ac_omega_certify.proofs.Divisibilities.{div_add_leads}
use Rattle.ac_omega_certify.proofs.path.TreePath.add_divisibilities.Goals as goal

pub returns-clause-leads : goal.returns-clause-leads
returns-clause-leads c = λ start path names m f g h a b v.
    let fk : FitsSigned w128 c.args.k = c.ranges.k in
    let fl : FitsSigned w128 c.args.l = c.ranges.l in
    div_add_leads c.args.self.now c.add_row.new.self start path names c.args.x c.args.y c.in_ok-place.place c.args.k c.args.l m f g (simp read_back at c.in_ok-place.ensures) h a b v
