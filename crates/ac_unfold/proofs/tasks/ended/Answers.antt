use Rattle.ac_unfold.proofs.PairTasks.{ends_none, ends_off, ends_some, stop_itself}
use Rattle.ac_unfold.proofs.tasks.ended.Goals as goal

pub returns-in_ok-push-in-Some-clause-ends : goal.returns-in_ok-push-in-Some-clause-ends
returns-in_ok-push-in-Some-clause-ends c = ends_some c.args.search.now c.args.made c.in-Ok.plan c.in-Some.plan c.args.plans.now.items c.push.new.self.items c.new.result c.in-Ok.is c.in-Some.is c.new.ensures.items c.in_ok-push-in-Some.ensures.items

pub returns-then-search-clause-ends : goal.returns-then-search-clause-ends
returns-then-search-clause-ends c = ends_none c.args.search.now c.args.made c.in-Ok.plan c.args.plans.now.items c.args.plans.now.items c.in-Ok.is c.in-None.is c.if-search.true

pub returns-else-search-clause-ends : goal.returns-else-search-clause-ends
returns-else-search-clause-ends c = ends_off c.args.search.now c.args.made c.in-Ok.plan c.args.plans.now.items c.args.plans.now.items c.new-in-None.result c.in-Ok.is c.in-None.is c.new-in-None.ensures.items c.if-search.false

pub returns-in-Err-clause-stops : goal.returns-in-Err-clause-stops
returns-in-Err-clause-stops c = stop_itself c.args.made c.in-Err.stop c.in-Err.is
