use Rattle.std.proofs.lemmas.Bool.{iff_false}
use Rattle.ac_claims.proofs.Entering.{all_dues_with, ongoing_with}
use Rattle.ac_claims.proofs.stack.keep.Goals as goal

pub returns-clause-dues : goal.returns-clause-dues
returns-clause-dues c = all_dues_with c.args.ongoing.now c.push.new.self (record { rows = c.args.rows; entries = c.args.entries }) c.in_ok-push.ensures.ok

pub returns-clause-ongoing : goal.returns-clause-ongoing
returns-clause-ongoing c =
    ongoing_with c.args.ongoing.now c.push.new.self (record { rows = c.args.rows; entries = c.args.entries }) c.in_ok-push.ensures.ok c.requires.ongoing
    (record { entries = c.requires.entries; some = iff_false c.is_empty.ensures c.if-is_empty.false })
