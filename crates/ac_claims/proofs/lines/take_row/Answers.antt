use Rattle.std.proofs.Common.{sym}
use Rattle.ac_claims.proofs.LineSteps.{made_added}
use Rattle.ac_claims.proofs.lines.take_row.Goals as goal

pub returns-clause-made : goal.returns-clause-made
returns-clause-made c = λ g m. made_added g c.args.front.now c.add_row.new.self c.args.row.now (sym c.if-not-is_within.ensures) c.requires c.in_ok-add_row.ensures.ok m
