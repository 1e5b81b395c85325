use Rattle.ac_claims.proofs.StackSteps.{pushed, pushed_entries}
use Rattle.ac_claims.proofs.parts.push_at.Goals as goal

pub returns-clause-dues : goal.returns-clause-dues
returns-clause-dues c = pushed c.args.path.now c.prefix_of-prefix.result c.args.awaited c.args.due.now c.push.new.self c.prefix_of-prefix.ensures c.in_ok-push.ensures.ok

pub returns-clause-entries : goal.returns-clause-entries
returns-clause-entries c = pushed_entries c.args.path.now c.prefix_of-prefix.result c.args.awaited c.args.due.now c.push.new.self c.prefix_of-prefix.ensures c.in_ok-push.ensures.ok c.requires.entries c.requires.due
