use Rattle.ac_cert.proofs.Apart.{with-made}
use Rattle.ac_cert.proofs.path.with_row.Goals as goal

pub one_more-requires : goal.one_more-requires
one_more-requires c = with-made c.args.path c.args.row c.requires.made c.requires.over
