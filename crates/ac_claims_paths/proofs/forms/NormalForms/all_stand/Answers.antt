use Rattle.ac_forms.proofs.Standings.{standing-meets}
use Rattle.ac_claims_paths.proofs.forms.NormalForms.all_stand.Goals as goal

pub returns-clause-meets : goal.returns-clause-meets
returns-clause-meets c = standing-meets c.standing.result c.args.rows.now c.args.wanted.now c.requires.rows c.requires.wanted c.standing.ensures.exact
