use Rattle.std.proofs.Common.{FitsSigned}
use Rattle.std.specs.Int.{w128}
use Rattle.ac_base.proofs.Bits.{read_back}
use Rattle.ac_omega_certify.proofs.Divisibilities.{div_eq_leads}
use Rattle.ac_omega_certify.proofs.path.TreePath.divide_zero.Goals as goal

pub returns-clause-leads : goal.returns-clause-leads
returns-clause-leads c = λ start path names f h a l.
    let fn : FitsSigned w128 c.args.n = c.ranges.n in
    div_eq_leads c.args.self.now c.add_row.new.self start path names c.args.x c.in_ok-place.place c.args.n f (simp read_back at c.in_ok-place.ensures) h a l
