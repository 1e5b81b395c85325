use Rattle.std.proofs.Common.{FitsSigned}
use Rattle.std.specs.Int.{w128}
use Rattle.ac_base.proofs.Bits.{read_back}
use Rattle.ac_omega_certify.proofs.Divisibilities.{div_mod_leads}
use Rattle.ac_omega_certify.proofs.path.TreePath.reduce.Goals as goal

pub returns-clause-leads : goal.returns-clause-leads
returns-clause-leads c = λ start path names m e f h a y l p q s d v k.
    let fg : FitsSigned w128 c.args.g = c.ranges.g in
    let fn : FitsSigned w128 c.args.n = c.ranges.n in
    div_mod_leads c.args.self.now c.add_row.new.self start path names c.args.x c.in_ok-place.place c.args.g c.args.n m e f c.args.form (simp read_back at c.in_ok-place.ensures) h a y l p q s d v k
