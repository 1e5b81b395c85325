use Rattle.std.proofs.Common.{FitsSigned}
use Rattle.std.specs.Int.{w128}
use Rattle.ac_base.proofs.Bits.{read_back}
use Rattle.ac_omega_certify.proofs.Divisibilities.{scale_leads}
use Rattle.ac_omega_certify.proofs.path.TreePath.scale.Goals as goal

pub returns-clause-leads : goal.returns-clause-leads
returns-clause-leads c = λ start path names m f h a n p q v.
    let fk : FitsSigned w128 c.args.k = c.ranges.k in
    scale_leads c.args.self.now c.add_row.new.self start path names c.args.x c.in_ok-place.place c.args.k m f (simp read_back at c.in_ok-place.ensures) h a n p q v
