use Rattle.std.proofs.Common.{FitsSigned}
use Rattle.std.specs.Int.{w128}
use Rattle.ac_base.proofs.Bits.{read_back}
use Rattle.ac_omega_certify.proofs.Quotients.{cut_leads}
use Rattle.ac_omega_certify.proofs.path.TreePath.cut.Goals as goal

pub returns-clause-leads : goal.returns-clause-leads
returns-clause-leads c = λ start path names f h a l d.
    let fg : FitsSigned w128 c.args.g = c.ranges.g in
    cut_leads c.args.self.now c.add_row.new.self start path names c.args.x c.in_ok-place.place c.args.g f (simp read_back at c.in_ok-place.ensures) h a l d
