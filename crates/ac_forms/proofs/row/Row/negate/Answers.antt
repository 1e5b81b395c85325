use Rattle.ac_forms.proofs.Negations.{pieces_complement, pieces_apart}
use Rattle.ac_forms.proofs.row.Row.negate.Goals as goal

pub returns-clause-complement : goal.returns-clause-complement
returns-clause-complement c = pieces_complement _ c.pieces_of.result c.args.columns c.args.self.now c.requires c.pieces_of.ensures

pub returns-clause-apart : goal.returns-clause-apart
returns-clause-apart c = pieces_apart _ c.pieces_of.result c.args.columns c.args.self.now c.pieces_of.ensures
