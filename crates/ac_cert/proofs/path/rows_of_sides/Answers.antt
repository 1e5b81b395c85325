use Rattle.ac_cert.proofs.Apart.{side-covers, side-made}
use Rattle.ac_cert.proofs.path.rows_of_sides.Goals as goal

pub returns-clause-covers : goal.returns-clause-covers
returns-clause-covers c = side-covers c.side_rows.result c.args.e.now c.args.columns c.side_rows.ensures

pub returns-clause-over : goal.returns-clause-over
returns-clause-over c = side-made c.side_rows.result c.args.e.now c.args.columns c.side_rows.ensures
