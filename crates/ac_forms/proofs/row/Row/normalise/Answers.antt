use Rattle.ac_forms.proofs.NormalLaws.{left_keeps}
use Rattle.ac_forms.proofs.row.Row.normalise.Goals as goal

pub returns-clause-points : goal.returns-clause-points
returns-clause-points c = left_keeps _ c.left_of.result c.args.self.now c.requires c.left_of.ensures
