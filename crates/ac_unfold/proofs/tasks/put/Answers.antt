use Rattle.std.proofs.Common.{◌≡◌, [], rules, arith}
use Rattle.std.proofs.lemmas.Grind.{common_steps}
use Rattle.ac_unfold.proofs.TaskRuns.{putting_end, putting_next, putting_start, taken}
use Rattle.ac_unfold.proofs.tasks.put.Goals as goal

pub loop-task-init : goal.loop-task-init
loop-task-init c = putting_start c.args.more.items c.args.tasks.now.items

pub loop-task-preserved : goal.loop-task-preserved
loop-task-preserved c =
    putting_next c.args.more.items c.loop-task.left.items c.pop.new.self.items c.args.tasks.now.items c.loop-task.tasks.items c.push.new.self.items c.in-Some.task c.loop-task.invariant
    (taken c.loop-task.left.items c.pop.new.self.items c.pop.result c.in-Some.task c.pop.ensures.items c.in-Some.is) c.in_ok-push.ensures.items

pub returns : goal.returns
returns c =
    let none_left : c.loop-task.left.items ≡ [] = first_of (search rules, grind (arith, common_steps)) in
    putting_end c.args.more.items c.loop-task.left.items c.args.tasks.now.items c.loop-task.tasks.items c.loop-task.invariant none_left
