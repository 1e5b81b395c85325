use Rattle.std.proofs.Common.{arith}
use Rattle.ac_cert.proofs.Behind.{path-along, path-refused}
use Rattle.ac_cert.proofs.laws.check_behind_steps.Goals as goal

pub returns-clause-stand : goal.returns-clause-stand
returns-clause-stand c = λ go b d behind. path-along c.args.steps.now go b d c.args.node (omega (arith, c.ranges.node)) behind

pub returns-clause-refused : goal.returns-clause-refused
returns-clause-refused c = λ go b none. path-refused c.args.steps.now go b c.args.node none
