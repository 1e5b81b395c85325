use Rattle.ac_hull.proofs.Findings.{row_in}
use Rattle.ac_hull.proofs.finding.with_met.Goals as goal

pub returns : goal.returns
returns c = row_in c.args.points.now c.args.row c.args.made c.push.new.self (c.is_met.ensures.0 c.if-not-is_met.false) c.in_ok-push.ensures.ok
