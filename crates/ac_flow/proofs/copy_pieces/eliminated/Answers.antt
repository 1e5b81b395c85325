use Rattle.std.proofs.Common.{◌∙◌}
use Rattle.ac_flow.proofs.Projections.{Answered, answered}
use Rattle.ac_flow.proofs.copy_pieces.eliminated.Goals as goal

all : (c : goal.After-drop-vars) → Answered c.args.first c.args.copy.now c.args.budget c.settle_pieces.result
all c =
    answered c.args.first c.args.copy.now c.args.budget c.deref.result.now c.settle_pieces.result (c.deref.ensures.value ∙ c.in-Ok.ensures) c.requires.first c.settle_pieces.ensures.exact c.settle_pieces.ensures.projection c.settle_pieces.ensures.reached
    c.settle_pieces.ensures.over

pub returns-clause-exact : goal.returns-clause-exact
returns-clause-exact c = (all c).exact

pub returns-clause-kills : goal.returns-clause-kills
returns-clause-kills c = (all c).kills

pub returns-clause-over : goal.returns-clause-over
returns-clause-over c = (all c).over

pub returns-clause-projection : goal.returns-clause-projection
returns-clause-projection c = (all c).projection
