use Rattle.ac_forms.proofs.Standings.{stands-holds, all-hold, stands-more, all-more, stands-there}
use Rattle.ac_forms.proofs.laws.rows_that_stand.Goals as goal

pub returns-clause-holds : goal.returns-clause-holds
returns-clause-holds c = λ r p e m k h. stands-holds c.args.rows.now r p e m k h

pub returns-clause-meet : goal.returns-clause-meet
returns-clause-meet c = λ rs p e m k h. all-hold c.args.rows.now rs p e m k h

pub returns-clause-more : goal.returns-clause-more
returns-clause-more c = λ more r e. stands-more c.args.rows.now more r e

pub returns-clause-all_more : goal.returns-clause-all_more
returns-clause-all_more c = λ more rs e. all-more c.args.rows.now more rs e

pub returns-clause-there : goal.returns-clause-there
returns-clause-there c = λ i r e f a. stands-there c.args.rows.now i r e f a
