use Rattle.std.proofs.Common.{◌≡◌, [], rules, arith}
use Rattle.std.proofs.lemmas.Grind.{common_steps}
use Rattle.ac_unfold.proofs.Behind.{closing_end, closing_next, closing_start, popped}
use Rattle.ac_unfold.proofs.course.Course.closed.Goals as goal

pub loop-last-init : goal.loop-last-init
loop-last-init c = closing_start c.args.self.branches.items c.args.end

pub loop-last-preserved : goal.loop-last-preserved
loop-last-preserved c =
    closing_next c.args.self.branches.items c.loop-last.branches.items c.pop.new.self.items c.in-Some.last c.args.end c.loop-last.plan c.in_ok-plan.plan c.loop-last.invariant
    (popped c.loop-last.branches.items c.pop.new.self.items c.pop.result c.in-Some.last c.pop.ensures.items c.in-Some.is) c.in_ok-plan.ensures

pub returns : goal.returns
returns c =
    let none_left : c.loop-last.branches.items ≡ [] = first_of (search rules, grind (arith, common_steps)) in
    closing_end c.args.self.branches.items c.loop-last.branches.items c.args.end c.loop-last.plan c.loop-last.invariant none_left
