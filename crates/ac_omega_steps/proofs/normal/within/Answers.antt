use Rattle.ac_omega_steps.proofs.LeftRows.{within_none, within_some}
use Rattle.ac_omega_steps.proofs.normal.within.Goals as goal

pub returns-in_default-clause-normal : goal.returns-in_default-clause-normal
returns-in_default-clause-normal c = λ more. within_none (record { columns = c.args.columns; rows = c.args.rows }) c.in_ok-left.field-0 more c.in_ok-left.ensures.exact c.in_default.is

pub returns-clause-normal : goal.returns-clause-normal
returns-clause-normal c = λ more. within_some (record { columns = c.args.columns; rows = c.args.rows }) c.in-Some.left c.in_ok-left.field-0 more c.requires c.in_ok-left.ensures.exact c.in-Some.is
