use Rattle.ac_omega_certify.proofs.Quotients.{eq_cut_leads}
use Rattle.ac_omega_certify.proofs.path.TreePath.join.Goals as goal

pub returns-clause-leads : goal.returns-clause-leads
returns-clause-leads c = λ start path names f g h a b o v.
    eq_cut_leads c.args.self.now c.add_row.new.self start path names c.args.x c.args.y c.in_ok-place.place f g c.in_ok-place.ensures h a b o v
