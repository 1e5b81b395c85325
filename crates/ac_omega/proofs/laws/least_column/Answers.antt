use Rattle.ac_omega.proofs.Leasts.{least-one, least-of-two}
use Rattle.ac_omega.proofs.Nexts.{least-among}
use Rattle.ac_omega.proofs.laws.least_column.Goals as goal

pub returns-clause-among : goal.returns-clause-among
returns-clause-among c = λ before z e. least-among before c.args.columns.now z e

pub returns-clause-first : goal.returns-clause-first
returns-clause-first c = λ rank z y e a. least-one rank c.args.columns.now z y e a

pub returns-clause-of_two : goal.returns-clause-of_two
returns-clause-of_two c = λ rank then z y e a. least-of-two rank then c.args.columns.now z y e a
