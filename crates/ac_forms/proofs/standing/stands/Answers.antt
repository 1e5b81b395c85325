use Rattle.ac_forms.proofs.Standings.{standing-holds}
use Rattle.ac_forms.proofs.standing.stands.Goals as goal

pub returns-clause-holds : goal.returns-clause-holds
returns-clause-holds c = standing-holds c.standing.result c.args.rows.now c.args.row.now c.requires.rows c.requires.row c.standing.ensures
