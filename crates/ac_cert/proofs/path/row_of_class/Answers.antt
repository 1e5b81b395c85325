use Rattle.ac_cert.proofs.Apart.{class-row-made}
use Rattle.ac_cert.proofs.path.row_of_class.Goals as goal

pub returns-clause-over : goal.returns-clause-over
returns-clause-over c = class-row-made c.class_by.result c.args.m.now c.args.e.now c.args.r.now c.args.columns c.class_by.ensures
