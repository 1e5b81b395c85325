use Rattle.ac_omega_certify.proofs.Spreading.{quotient_reaches}
use Rattle.ac_omega_certify.proofs.path.TreePath.quotient.Goals as goal

pub returns-clause-reaches : goal.returns-clause-reaches
returns-clause-reaches c = λ start path m f h at one short.
    quotient_reaches c.args.self.now (record { steps = c.add_row.new.self.steps; columns = c.in-Some.columns; rows = c.add_row.new.self.rows; one = c.add_row.new.self.one }) c.args.x start path m f
    c.in_ok-place.ensures.steps c.in-Some.ensures.1 c.in_ok-place.ensures.rows h at one short
