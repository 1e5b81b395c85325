use Rattle.ac_omega_exact.proofs.Counts.{count_made}
use Rattle.ac_omega_exact.proofs.needs.splinter_count.Goals as goal

pub returns : goal.returns
returns c = count_made c.args.a c.args.b c.div_euclid.result c.ranges.a c.ranges.b (record { sfits = c.div_euclid.type_inv }) c.requires.size c.requires.lower c.div_euclid.ensures
